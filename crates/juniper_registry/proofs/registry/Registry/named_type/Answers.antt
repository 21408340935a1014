use Rattle.std.proofs.Common.{true, ap, ◌∙◌}
use Rattle.graphql_spec.specs.Types.{named}
use Rattle.juniper_registry.proofs.Plain.{seen_named}
use Rattle.juniper_registry.proofs.registry.Registry.named_type.Goals as goal

pub returns-clause-referred : goal.returns-clause-referred
returns-clause-referred g c = seen_named c.in_ok-own.own ∙ ap (named true) c.in_ok-own.ensures.ok
