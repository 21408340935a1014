use Rattle.std.proofs.Common.{ap, ◌∙◌}
use Rattle.graphql_spec.specs.Types.{nullable}
use Rattle.juniper_registry.proofs.nullables.NullableGraphQLReference.type_in.Goals as goal

pub returns : goal.returns
returns g c = c.nullable.ensures ∙ ap nullable c.in_ok-type_in.ensures
