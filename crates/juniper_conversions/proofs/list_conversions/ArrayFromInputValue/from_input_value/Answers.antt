use Rattle.std.proofs.Common.{◌∙◌, sym, map}
use Rattle.std.proofs.lemmas.List.{length-map}
use Rattle.graphql_spec.specs.Constants.{meaning}
use Rattle.juniper_syntax.specs.InputView.{view_input}
use Rattle.juniper_conversions.proofs.Counts.{counted, single}
use Rattle.juniper_conversions.proofs.Shapes.{by_list, by_other}
use Rattle.juniper_conversions.proofs.list_conversions.ArrayFromInputValue.from_input_value.Goals as goal
use Rattle.juniper_conversions.proofs.list_conversions.ArrayFromInputValue.from_input_value.Goals.{in-Some+else-items+in_ok-converted-in-Some}
use Rattle.juniper_conversions.proofs.list_conversions.ArrayFromInputValue.from_input_value.Goals.{in-None+in_ok-converted-in-None}

pub returns-in-Ok : goal.returns-in-Ok
returns-in-Ok g c =
    let view = view_input g.S.ScalarValue.shown in
    let v = meaning (view c.args.value.now) in
    let gives = g.T.FromInputValue.gives in
    elim c.match-list_of.branch [
      | in-Some+else-items+in_ok-converted-in-Some w ↦
          by_list _ _ _ v (map (λ x. meaning (view x.item)) w.in-Some.items.now) w.in-Some.ensures
          (counted g.row.N gives _ c.in-Ok.items.items (rw (← w.converted-is, c.in-Ok.is) at w.in_ok-converted-in-Some.ensures)
          (rw length-map w.if-items.false) c.into_array.result c.into_array.ensures)
      | in-None+in_ok-converted-in-None w ↦
          by_other _ _ _ v (sym c.is_null.ensures ∙ c.if-is_null.false) w.in-None.ensures
          (single g.row.N gives v c.in-Ok.items.items (rw (← w.converted-is, c.in-Ok.is) at w.in_ok-converted-in-None.ensures) c.into_array.result
          c.into_array.ensures)
    ]
