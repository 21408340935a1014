use Rattle.std.proofs.Common.{map}
use Rattle.juniper_conversions.specs.ErrorView.{view_listed}
use Rattle.juniper_syntax.specs.ValueView.{view_value}
use Rattle.juniper_walk.specs.Budget.{fields_in, most_fields}
use Rattle.juniper_execute.proofs.Bounds.{bounded-grouped}
use Rattle.juniper_execute.proofs.ToldFirsts.{answer-tells}
use Rattle.juniper_execute.proofs.walking.Walking.answer.Goals as goal

pub returns-in-Grouped-clause-firsts : goal.returns-in-Grouped-clause-firsts
returns-in-Grouped-clause-firsts g c =
    let shown = g.S.ScalarValue.shown in
    answer-tells c.answer.result _ _ _ _ (λ w. view_value shown w.value) (λ w. map (view_listed shown) w.errors.items)
    c.answer.ensures.exact c.answer.ensures.firsts _ c.in-Grouped.is

pub returns-in-Grouped-clause-counted : goal.returns-in-Grouped-clause-counted
returns-in-Grouped-clause-counted g c =
    bounded-grouped _ c.in-Grouped.is (λ w. fields_in (view_value g.S.ScalarValue.shown w.value)) (most_fields c.args.fields)
    c.answer.result c.answer.ensures.counted
