use Rattle.std.proofs.Common.{ap, sym, ◌∙◌}
use Rattle.graphql_spec.specs.Rules.{repeats_fragment}
use Rattle.juniper_syntax.specs.DocumentView.{view_definition}
use Rattle.juniper_written.proofs.earlier.Earlier.repeats_fragment.Goals as goal

pub returns-in-Operation : goal.returns-in-Operation
unfolding repeats_fragment
returns-in-Operation g c = λ ds e. ap (λ x. repeats_fragment ds (view_definition g.S.ScalarValue.shown x)) (sym c.in-Operation.is)

pub returns-in-Fragment : goal.returns-in-Fragment
unfolding repeats_fragment
returns-in-Fragment g c = λ ds e.
    c.contains.ensures ∙ (e.1 c.in-Fragment.fragment.item.name.item.now
    ∙ ap (λ x. repeats_fragment ds (view_definition g.S.ScalarValue.shown x)) (sym c.in-Fragment.is))
