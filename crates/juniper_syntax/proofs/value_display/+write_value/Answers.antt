use Rattle.std.proofs.Common.{[], ◌++◌, sym, ap, refl, ◌∙◌, rules, arith}
use Rattle.std.proofs.Output.{has_written_append, has_written_of_eq}
use Rattle.graphql_spec.specs.ValueDisplay.{display_value}
use Rattle.juniper_syntax.specs.ValueView.{view_value}
use Rattle.juniper_syntax.proofs.Displays.{comma-IsUtf8}
use Rattle.juniper_syntax.proofs.Lists.{left-is}
use Rattle.juniper_syntax.proofs.Values.{view-Null, view-Scalar, view-List, view-Object}
use Rattle.juniper_syntax.proofs.ValueDisplays.{first_values, values_written, values_all, first_entries, entries_written, entries_all}
use Rattle.juniper_syntax.proofs.value_display.+write_value.Goals as goal

pub write_values-loop-item-init : goal.write_values-loop-item-init
write_values-loop-item-init g t c = (omega arith, ([], (refl, refl)), [], first_values _, search rules)

pub write_values-loop-item-preserved : goal.write_values-loop-item-preserved
write_values-loop-item-preserved g t c =
    let shown = g.S.ScalarValue.shown in
    let l = c.loop-item in
    let x = c.item-item.result in
    let (small, valid, done, whole, wrote) = l.invariant in
    let one = rw (left-is c.args.items.now l.item-index x (omega arith) c.item-item.is) at small in (
      omega (arith, one),
      comma-IsUtf8,
      done ++ (l.separator.now ++ display_value (view_value shown x)),
      values_written shown c.args.items.now l.item-index x l.separator.now done _ (omega arith) c.item-item.is whole,
      λ plain.
          let sofar = wrote plain in
          let comma = c.write_str.ensures.writes sofar.plain (search rules) in
          let value = c.write_value.ensures comma.plain (search rules) in
          has_written_append _ _ _ _ _ _ sofar (has_written_append _ _ _ _ _ _ comma value),
    )

pub write_values-returns : goal.write_values-returns
write_values-returns g t c plain ok =
    let l = c.loop-item in
    let (small, valid, done, whole, wrote) = l.invariant in
    has_written_of_eq _ _ _ _ _ (values_all g.S.ScalarValue.shown c.args.items.now l.item-index l.separator.now done _ (omega arith) whole) (wrote plain)

pub write_object-loop-key-init : goal.write_object-loop-key-init
write_object-loop-key-init g t c =
    let same = c.into_iter-key-iterator.ensures.into_iter_gives in
    rw (same, c.iter-key-items.ensures) (omega arith, ([], (refl, refl)), [], first_entries _, search rules)

pub write_object-loop-key-preserved : goal.write_object-loop-key-preserved
write_object-loop-key-preserved g t c =
    let shown = g.S.ScalarValue.shown in
    let l = c.loop-key in
    let (small, valid, done, whole, wrote) = l.invariant in
    let first = c.in-Some.ensures.steps in
    let one = rw first at small in (
      omega (arith, one),
      comma-IsUtf8,
      _,
      entries_written shown _ _ (c.in-Some.key.now, c.in-Some.value.now) l.separator.now done _ first whole,
      λ plain.
          let sofar = wrote plain in
          let comma = c.write_str.ensures.writes sofar.plain (search rules) in
          let key = rw c.as_str.ensures.value at c.write_quoted.ensures comma.plain (search rules) in
          let colon = c.write_str-in-loop-key.ensures.writes key.plain (search rules) in
          let value = c.write_value.ensures colon.plain (search rules) in
          has_written_append _ _ _ _ _ _ sofar (has_written_append _ _ _ _ _ _ comma
          (has_written_append _ _ _ _ _ _ key (has_written_append _ _ _ _ _ _ colon value))),
    )

pub write_object-returns : goal.write_object-returns
write_object-returns g t c plain ok =
    let l = c.loop-key in
    let (small, valid, done, whole, wrote) = l.invariant in
    has_written_of_eq _ _ _ _ _ (entries_all g.S.ScalarValue.shown _ l.separator.now done _ c.in-None.ensures.steps.0 whole) (wrote plain)

pub write_value-returns-in-Null : goal.write_value-returns-in-Null
unfolding display_value
write_value-returns-in-Null g t c plain ok =
    let shown = g.S.ScalarValue.shown in
    let seen = ap (view_value shown) c.in-Null.is ∙ view-Null shown in
    has_written_of_eq _ _ _ _ _ (sym (ap display_value seen)) (c.write_str.ensures.writes plain ok)

pub write_value-returns-in-Scalar : goal.write_value-returns-in-Scalar
unfolding display_value
write_value-returns-in-Scalar g t c plain ok =
    let shown = g.S.ScalarValue.shown in
    let seen = ap (view_value shown) c.in-Scalar.is ∙ view-Scalar shown c.in-Scalar.scalar in
    has_written_of_eq _ _ _ _ _ (sym (ap display_value seen)) (c.write_scalar.ensures plain ok)

pub write_value-returns-in_ok-write_values-in-List : goal.write_value-returns-in_ok-write_values-in-List
unfolding display_value
write_value-returns-in_ok-write_values-in-List g t c plain ok =
    let shown = g.S.ScalarValue.shown in
    let seen = ap (view_value shown) c.in-List.is ∙ view-List shown c.in-List.items in
    let opened = c.write_str-in-List.ensures.writes plain (search rules) in
    let inside = rw c.as_slice.ensures.value at c.write_values.ensures opened.plain (search rules) in
    let closed = c.write_str-in-List-2.ensures.writes inside.plain ok in
    has_written_of_eq _ _ _ _ _ (sym (ap display_value seen)) (has_written_append _ _ _ _ _ _ opened (has_written_append _ _ _ _ _ _ inside closed))

pub write_value-returns-in_ok-write_object-in-Object : goal.write_value-returns-in_ok-write_object-in-Object
unfolding display_value
write_value-returns-in_ok-write_object-in-Object g t c plain ok =
    let shown = g.S.ScalarValue.shown in
    let seen = ap (view_value shown) c.in-Object.is ∙ view-Object shown c.in-Object.object in
    let opened = c.write_str-in-Object.ensures.writes plain (search rules) in
    let inside = c.write_object.ensures opened.plain (search rules) in
    let closed = c.write_str-in-Object-2.ensures.writes inside.plain ok in
    has_written_of_eq _ _ _ _ _ (sym (ap display_value seen)) (has_written_append _ _ _ _ _ _ opened (has_written_append _ _ _ _ _ _ inside closed))
