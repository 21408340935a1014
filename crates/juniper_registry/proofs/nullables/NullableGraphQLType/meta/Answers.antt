use Rattle.std.proofs.Common.{◌∙◌}
use Rattle.juniper_registry.proofs.nullables.NullableGraphQLType.meta.Goals as goal

pub returns : goal.returns
returns g c = c.into_meta.ensures ∙ c.in_ok-build_nullable_type.ensures.built
