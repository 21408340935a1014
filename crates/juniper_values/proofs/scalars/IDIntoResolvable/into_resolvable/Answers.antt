use Rattle.std.proofs.Common.{ap, sym, ◌∙◌}
use Rattle.graphql_spec.specs.Resolvers.{answered, leaf}
use Rattle.graphql_spec.specs.Shown.{text}
use Rattle.juniper_values.proofs.Resolutions.{view-Scalar}
use Rattle.juniper_values.proofs.scalars.IDIntoResolvable.into_resolvable.Goals as goal

pub returns : goal.returns
returns g c =
    ap (λ s. answered (leaf s)) (ap text (sym c.from.ensures) ∙ sym c.in_ok-from_text.ensures)
    ∙ sym (ap answered (view-Scalar g.S.ScalarValue.shown c.in_ok-from_text.field-0))
