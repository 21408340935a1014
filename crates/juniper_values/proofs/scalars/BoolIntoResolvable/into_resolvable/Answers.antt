use Rattle.std.proofs.Common.{ap, sym, ◌∙◌}
use Rattle.graphql_spec.specs.Resolvers.{answered, leaf}
use Rattle.juniper_values.proofs.Resolutions.{view-Scalar}
use Rattle.juniper_values.proofs.scalars.BoolIntoResolvable.into_resolvable.Goals as goal

pub returns : goal.returns
returns g c = ap (λ s. answered (leaf s)) (sym c.from_bool.ensures) ∙ sym (ap answered (view-Scalar g.S.ScalarValue.shown c.from_bool.result))
