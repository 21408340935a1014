use Rattle.std.proofs.Common.{ap, option_map, subst}
use Rattle.juniper_schema.specs.SchemaView.{view_schema}
use Rattle.juniper_syntax.specs.DocumentView.{view_selections}
use Rattle.juniper_written.specs.WrittenView.{view_inline, view_spread_at}
use Rattle.juniper_type_rules.specs.PlacedView.{view_parts}
use Rattle.juniper_type_rules.proofs.Placing.{IsAdded, adds-directives, adds-field, adds-spread, adds-inline, adds-next, adds-all, set-below, leaf-below}
use Rattle.juniper_type_rules.proofs.Placing.{none-below, some-inside}
use Rattle.juniper_type_rules.proofs.placed.+placing.Goals as goal

pub place_selection-returns-in_ok-place_selections-in-Some-selection_set : goal.place_selection-returns-in_ok-place_selections-in-Some-selection_set
place_selection-returns-in_ok-place_selections-in-Some-selection_set g t c = λ is.
    let shown = g.S.ScalarValue.shown in
    let s = view_schema shown c.args.schema.now in
    let m = view_parts shown c.place_field.new.placed in
    let type = option_map (λ n. n.now) c.in_ok-below-in-Field.below in
    adds-field shown s c.args.parent.now.name.now c.args.selection.now (view_parts shown c.args.placed.now)
    (view_parts shown c.place_selections.new.placed) c.in-Field.field type m
    c.in-Field.is (c.in_ok-below-in-Field.ensures.below is) (c.in_ok-below-in-Field.ensures.added is)
    (set-below shown s m type c.in-Some.inner.now c.in-Field.field.item.selection_set c.in-Some-selection_set.selections c.deref.result.now _
    (ap (option_map (λ n. n.now)) c.in-Some.is) c.in-Some-selection_set.is
    c.deref.ensures.value c.in_ok-place_selections-in-Some-selection_set.ensures)

pub place_selection-returns-in-None-selection_set : goal.place_selection-returns-in-None-selection_set
place_selection-returns-in-None-selection_set g t c = λ is.
    let shown = g.S.ScalarValue.shown in
    let s = view_schema shown c.args.schema.now in
    let m = view_parts shown c.place_field.new.placed in
    let type = option_map (λ n. n.now) c.in_ok-below-in-Field.below in
    adds-field shown s c.args.parent.now.name.now c.args.selection.now (view_parts shown c.args.placed.now) m c.in-Field.field type m
    c.in-Field.is (c.in_ok-below-in-Field.ensures.below is) (c.in_ok-below-in-Field.ensures.added is)
    (leaf-below shown s m type c.in-Field.field.item.selection_set c.in-None-selection_set.is)

pub place_selection-returns-in-None : goal.place_selection-returns-in-None
place_selection-returns-in-None g t c = λ is.
    let shown = g.S.ScalarValue.shown in
    let s = view_schema shown c.args.schema.now in
    let m = view_parts shown c.place_field.new.placed in
    let type = option_map (λ n. n.now) c.in_ok-below-in-Field.below in
    adds-field shown s c.args.parent.now.name.now c.args.selection.now (view_parts shown c.args.placed.now) m c.in-Field.field type m
    c.in-Field.is (c.in_ok-below-in-Field.ensures.below is) (c.in_ok-below-in-Field.ensures.added is)
    (none-below s m type _ (ap (option_map (λ n. n.now)) c.in-None.is))

pub place_selection-returns-in_ok-write_directives-in-FragmentSpread : goal.place_selection-returns-in_ok-write_directives-in-FragmentSpread
place_selection-returns-in_ok-write_directives-in-FragmentSpread g t c = λ is.
    let shown = g.S.ScalarValue.shown in
    let old = view_parts shown c.args.placed.now in
    adds-spread shown (view_schema shown c.args.schema.now) c.args.parent.now.name.now c.args.selection.now old _
    c.in-FragmentSpread.spread c.in-FragmentSpread.is
    (adds-directives old _ (view_spread_at shown c.in-FragmentSpread.spread).directives c.in_ok-write_directives-in-FragmentSpread.ensures)

pub place_selection-returns-in_ok-place_selections-in-Some-type_inside : goal.place_selection-returns-in_ok-place_selections-in-Some-type_inside
place_selection-returns-in_ok-place_selections-in-Some-type_inside g t c = λ is.
    let shown = g.S.ScalarValue.shown in
    let s = view_schema shown c.args.schema.now in
    let old = view_parts shown c.args.placed.now in
    let inline = c.in-InlineFragment.inline in
    let type = option_map (λ n. n.now) c.type_inside.result in
    adds-inline shown s c.args.parent.now.name.now c.args.selection.now old _ inline type _ c.in-InlineFragment.is c.type_inside.ensures
    (adds-directives old _ (view_inline shown inline).directives c.in_ok-write_directives-in-InlineFragment.ensures)
    (some-inside s _ _ type c.in-Some-type_inside.inner.now (view_selections shown inline.item.selection_set.items)
    (view_selections shown c.deref-in-Some-type_inside.result.now)
    (ap (option_map (λ n. n.now)) c.in-Some-type_inside.is) (ap (view_selections shown) c.deref-in-Some-type_inside.ensures.value)
    c.in_ok-place_selections-in-Some-type_inside.ensures)

pub place_selection-returns-in-None-type_inside : goal.place_selection-returns-in-None-type_inside
place_selection-returns-in-None-type_inside g t c = λ is.
    let shown = g.S.ScalarValue.shown in
    let s = view_schema shown c.args.schema.now in
    let old = view_parts shown c.args.placed.now in
    let inline = c.in-InlineFragment.inline in
    let type = option_map (λ n. n.now) c.type_inside.result in
    adds-inline shown s c.args.parent.now.name.now c.args.selection.now old _ inline type _ c.in-InlineFragment.is c.type_inside.ensures
    (adds-directives old _ (view_inline shown inline).directives c.in_ok-write_directives-in-InlineFragment.ensures)
    (none-below s _ type _ (ap (option_map (λ n. n.now)) c.in-None-type_inside.is))

pub place_selections-returns : goal.place_selections-returns
place_selections-returns g t c =
    let shown = g.S.ScalarValue.shown in
    adds-all shown (view_schema shown c.args.schema.now) c.args.name.now c.args.selections.now
    (view_parts shown c.args.placed.now) c.loop-selection.selection-index
    (view_parts shown c.loop-selection.placed) c.loop-selection-test.false c.loop-selection.invariant

pub place_selections-loop-selection-preserved : goal.place_selections-loop-selection-preserved
place_selections-loop-selection-preserved g t c =
    let shown = g.S.ScalarValue.shown in
    let s = view_schema shown c.args.schema.now in
    let now = view_parts shown c.place_selection.new.placed in
    let parent = c.parent_of-parent.ensures in
    adds-next shown s c.args.name.now c.args.selections.now
    (view_parts shown c.args.placed.now) c.loop-selection.selection-index c.selection-item.result
    (view_parts shown c.loop-selection.placed) now
    c.loop-selection-test.true c.selection-item.is c.loop-selection.invariant
    (subst (λ p. IsAdded shown s p c.selection-item.result (view_parts shown c.loop-selection.placed) now) parent.named
    (c.in_ok-place_selection.ensures parent.found))
