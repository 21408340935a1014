use Rattle.std.proofs.Common.{◌∙◌, sym, refl, map}
use Rattle.graphql_spec.specs.Constants.{meaning}
use Rattle.juniper_syntax.specs.InputView.{view_input}
use Rattle.juniper_conversions.proofs.Shapes.{by_null, by_list, by_other}
use Rattle.juniper_conversions.proofs.list_conversions.VecFromInputValue.from_input_value.Goals as goal
use Rattle.juniper_conversions.proofs.list_conversions.VecFromInputValue.from_input_value.Goals.{in-Some+in_ok-answer-in-Some, in-None+in_ok-answer-in-None}

pub returns-then-is_null : goal.returns-then-is_null
returns-then-is_null g c = by_null _ _ _ (meaning (view_input g.S.ScalarValue.shown c.args.value.now)) (sym c.is_null.ensures ∙ c.if-is_null.true) refl

pub returns-in-Ok : goal.returns-in-Ok
returns-in-Ok g c =
    let view = view_input g.S.ScalarValue.shown in
    let v = meaning (view c.args.value.now) in
    elim c.match-list_of.branch [
      | in-Some+in_ok-answer-in-Some w ↦
          by_list _ _ _ v (map (λ x. meaning (view x.item)) w.in-Some.items.now) w.in-Some.ensures
          (rw (← w.answer-is, c.in-Ok.is) at w.in_ok-answer-in-Some.ensures)
      | in-None+in_ok-answer-in-None w ↦ by_other _ _ _ v (sym c.is_null.ensures ∙ c.if-is_null.false) w.in-None.ensures
          (rw (← w.answer-is, c.in-Ok.is) at w.in_ok-answer-in-None.ensures)
    ]

pub returns-in-Err : goal.returns-in-Err
returns-in-Err g c =
    let view = view_input g.S.ScalarValue.shown in
    let v = meaning (view c.args.value.now) in
    elim c.match-list_of.branch [
      | in-Some+in_ok-answer-in-Some w ↦
          by_list _ _ _ v (map (λ x. meaning (view x.item)) w.in-Some.items.now) w.in-Some.ensures
          (rw (← w.answer-is, c.in-Err.is) at w.in_ok-answer-in-Some.ensures)
      | in-None+in_ok-answer-in-None w ↦ by_other _ _ _ v (sym c.is_null.ensures ∙ c.if-is_null.false) w.in-None.ensures
          (rw (← w.answer-is, c.in-Err.is) at w.in_ok-answer-in-None.ensures)
    ]
