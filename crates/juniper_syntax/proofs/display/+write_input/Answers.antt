use Rattle.std.proofs.Common.{◌≡◌, ◌≤◌, [], ◌++◌, get_or, sym, ap, refl, ◌∙◌, rules, arith}
use denote.Param.Weighed.{at_most}
use Rattle.juniper_syntax.proofs.input.InputValue.TheLaws.{the_size}
use Rattle.juniper_syntax.specs.declared.input.InputValue.TheShapes.{weighed-InputValue-Object-0-at-4}
use Rattle.std.proofs.Output.{has_written_append, has_written_of_eq}
use Rattle.graphql_spec.specs.Display.{display}
use Rattle.juniper_syntax.specs.InputView.{view_input}
use Rattle.juniper_syntax.proofs.Inputs.{view-Null, view-Scalar, view-Enum, view-Variable, view-List, view-Object}
use Rattle.juniper_syntax.proofs.Displays.{comma-IsUtf8, first_items, items_written, items_all, first_fields, fields_written, fields_all}
use Rattle.juniper_syntax.proofs.display.+write_input.Goals as goal

pub write_items-loop-item-init : goal.write_items-loop-item-init
write_items-loop-item-init g t c = (([], (refl, refl)), [], first_items _, search rules)

pub write_items-loop-item-preserved : goal.write_items-loop-item-preserved
write_items-loop-item-preserved g t c =
    let shown = g.S.ScalarValue.shown in
    let l = c.loop-item in
    let x = c.item-item.result in
    let (valid, done, whole, wrote) = l.invariant in (
      comma-IsUtf8,
      done ++ (l.separator.now ++ display (view_input shown x.item)),
      items_written shown c.args.items.now l.item-index x l.separator.now done _ (omega arith) c.item-item.is whole,
      λ plain.
          let sofar = wrote plain in
          let comma = c.write_str.ensures.writes sofar.plain (search rules) in
          let value = c.write_input.ensures comma.plain (search rules) in
          has_written_append _ _ _ _ _ _ sofar (has_written_append _ _ _ _ _ _ comma value),
    )

pub write_items-returns : goal.write_items-returns
write_items-returns g t c plain ok =
    let l = c.loop-item in
    let (valid, done, whole, wrote) = l.invariant in
    has_written_of_eq _ _ _ _ _ (items_all g.S.ScalarValue.shown c.args.items.now l.item-index l.separator.now done _ (omega arith) whole) (wrote plain)

pub write_fields-loop-field-init : goal.write_fields-loop-field-init
write_fields-loop-field-init g t c = (([], (refl, refl)), [], first_fields _, search rules)

pub write_fields-loop-field-preserved : goal.write_fields-loop-field-preserved
write_fields-loop-field-preserved g t c =
    let shown = g.S.ScalarValue.shown in
    let l = c.loop-field in
    let x = c.field-item.result in
    let (valid, done, whole, wrote) = l.invariant in (
      comma-IsUtf8,
      _,
      fields_written shown c.args.fields.now l.field-index x l.separator.now done _ (omega arith) c.field-item.is whole,
      λ plain.
          let sofar = wrote plain in
          let comma = c.write_str.ensures.writes sofar.plain (search rules) in
          let name = rw c.as_str.ensures.value at c.write_str-in-loop-field.ensures.writes comma.plain (search rules) in
          let colon = c.write_str-in-loop-field-2.ensures.writes name.plain (search rules) in
          let value = rw c.value_of.ensures at c.write_input.ensures colon.plain (search rules) in
          has_written_append _ _ _ _ _ _ sofar (has_written_append _ _ _ _ _ _ comma
          (has_written_append _ _ _ _ _ _ name (has_written_append _ _ _ _ _ _ colon value))),
    )

pub write_fields-returns : goal.write_fields-returns
write_fields-returns g t c plain ok =
    let l = c.loop-field in
    let (valid, done, whole, wrote) = l.invariant in
    has_written_of_eq _ _ _ _ _ (fields_all g.S.ScalarValue.shown c.args.fields.now l.field-index l.separator.now done _ (omega arith) whole) (wrote plain)

pub write_input-returns-in_ok-write_items-in-List : goal.write_input-returns-in_ok-write_items-in-List
unfolding display
write_input-returns-in_ok-write_items-in-List g t c plain ok =
    let shown = g.S.ScalarValue.shown in
    let seen = ap (view_input shown) c.in-List.is ∙ view-List shown c.in-List.items in
    let opened = c.write_str-in-List.ensures.writes plain (search rules) in
    let inside = rw c.as_slice.ensures.value at c.write_items.ensures opened.plain (search rules) in
    let closed = c.write_str-in-List-2.ensures.writes inside.plain ok in
    has_written_of_eq _ _ _ _ _ (sym (ap display seen)) (has_written_append _ _ _ _ _ _ opened (has_written_append _ _ _ _ _ _ inside closed))

pub write_input-returns-in_ok-write_fields-in-Object : goal.write_input-returns-in_ok-write_fields-in-Object
unfolding display
write_input-returns-in_ok-write_fields-in-Object g t c plain ok =
    let shown = g.S.ScalarValue.shown in
    let seen = ap (view_input shown) c.in-Object.is ∙ view-Object shown c.in-Object.fields in
    let opened = c.write_str-in-Object.ensures.writes plain (search rules) in
    let inside = rw c.as_slice-in-Object.ensures.value at c.write_fields.ensures opened.plain (search rules) in
    let closed = c.write_str-in-Object-2.ensures.writes inside.plain ok in
    has_written_of_eq _ _ _ _ _ (sym (ap display seen)) (has_written_append _ _ _ _ _ _ opened (has_written_append _ _ _ _ _ _ inside closed))

pub write_input-returns-in-Null : goal.write_input-returns-in-Null
unfolding display
write_input-returns-in-Null g t c plain ok =
    let shown = g.S.ScalarValue.shown in
    let seen = ap (view_input shown) c.in-Null.is ∙ view-Null shown in
    has_written_of_eq _ _ _ _ _ (sym (ap display seen)) (c.write_str.ensures.writes plain ok)

pub write_input-returns-in-Scalar : goal.write_input-returns-in-Scalar
unfolding display
write_input-returns-in-Scalar g t c plain ok =
    let shown = g.S.ScalarValue.shown in
    let seen = ap (view_input shown) c.in-Scalar.is ∙ view-Scalar shown c.in-Scalar.scalar in
    has_written_of_eq _ _ _ _ _ (sym (ap display seen)) (c.write_scalar.ensures plain ok)

pub write_input-returns-in-Enum : goal.write_input-returns-in-Enum
unfolding display
write_input-returns-in-Enum g t c plain ok =
    let shown = g.S.ScalarValue.shown in
    let seen = ap (view_input shown) c.in-Enum.is ∙ view-Enum shown c.in-Enum.name in
    let wrote = rw c.as_str.ensures.value at c.write_str-in-Enum.ensures.writes plain ok in
    has_written_of_eq _ _ _ _ _ (sym (ap display seen)) wrote

pub write_input-returns-in_ok-write_str-in-Variable : goal.write_input-returns-in_ok-write_str-in-Variable
unfolding display
write_input-returns-in_ok-write_str-in-Variable g t c plain ok =
    let shown = g.S.ScalarValue.shown in
    let seen = ap (view_input shown) c.in-Variable.is ∙ view-Variable shown c.in-Variable.name in
    let sign = c.write_str-in-Variable.ensures.writes plain (search rules) in
    let name = rw c.as_str-in-Variable.ensures.value at c.write_str-in-Variable-2.ensures.writes sign.plain ok in
    has_written_of_eq _ _ _ _ _ (sym (ap display seen)) (has_written_append _ _ _ _ _ _ sign name)

pub write_fields-write_input-requires : goal.write_fields-write_input-requires
write_fields-write_input-requires g t c κs within = (
  let size = the_size g.row.S g.S.laws in
      let most_of = (weighed-InputValue-Object-0-at-4 g.row.S.Denot).weight _ size in
      let at = at_most most_of c.args.fields.now c.loop-field.field-index c.field-item.result (omega arith) in
      let one : size c.value_of.result.now ≤ most_of c.field-item.result = rw c.value_of.ensures (omega arith) in
      let same : most_of c.field-item.result ≡ most_of (get_or c.args.fields.now c.loop-field.field-index c.field-item.result) = ap most_of c.field-item.is in
      omega (arith, c.decreases, at, one, same),
  search rules,
)
