use Rattle.std.proofs.Common.{refl, subst}
use Rattle.graphql_spec.specs.Fields.{declared_type, field_of}
use Rattle.graphql_spec.specs.Types.{innermost}
use Rattle.juniper_schema.specs.SchemaView.{view_schema}
use Rattle.juniper_syntax.specs.DocumentView.{view_field, view_selections}
use Rattle.juniper_field_graph.specs.MetView.{Meets, met_at}
use Rattle.juniper_field_graph.specs.PlainKeys.{written_on}
use Rattle.juniper_field_graph.proofs.MetSelections.{field-before, inline-before, met-all, met-next, none-below, set-below, spread-before}
use Rattle.juniper_field_graph.proofs.plain_keys.+meeting.Goals as goal

pub meet_selection-returns-in_ok-is_plain-in-Some-type_below : goal.meet_selection-returns-in_ok-is_plain-in-Some-type_below
meet_selection-returns-in_ok-is_plain-in-Some-type_below g t c = λ plain.
    let shown = g.S.ScalarValue.shown in
    let s = view_schema shown c.args.schema.now in
    let p = c.args.parent.now in
    let field = c.in-Field.field in
    let mid = met_at shown s c.meet_field.new.met in
    let new = met_at shown s c.meet_selections.new.met in
    field-before shown s p c.args.selection.now (met_at shown s c.args.met.now) new field mid c.in-Field.is
    (c.in_ok-meet_field-in-Field.ensures c.if-not-branch.false)
    (set-below shown s mid new c.in-Some-type_below.inner.now (innermost (declared_type (field_of s p (view_field shown field).name.item)))
    field.item.selection_set c.in-Some.selections c.deref.result.now c.in-Some.is c.deref.ensures.value
    c.in-Some-type_below.ensures
    (c.in_ok-is_plain-in-Some-type_below.ensures plain))

pub meet_selection-returns-in-None : goal.meet_selection-returns-in-None
meet_selection-returns-in-None g t c = λ plain.
    let shown = g.S.ScalarValue.shown in
    let s = view_schema shown c.args.schema.now in
    let p = c.args.parent.now in
    let field = c.in-Field.field in
    let mid = met_at shown s c.meet_field.new.met in
    field-before shown s p c.args.selection.now (met_at shown s c.args.met.now) mid field mid c.in-Field.is
    (c.in_ok-meet_field-in-Field.ensures c.if-not-branch.false)
    (none-below shown s mid (innermost (declared_type (field_of s p (view_field shown field).name.item))) field.item.selection_set c.in-None.is)

pub meet_selection-returns-in-FragmentSpread : goal.meet_selection-returns-in-FragmentSpread
meet_selection-returns-in-FragmentSpread g t c = λ plain.
    let shown = g.S.ScalarValue.shown in
    let s = view_schema shown c.args.schema.now in
    let old = met_at shown s c.args.met.now in
    spread-before shown s c.args.parent.now c.args.selection.now old old c.in-FragmentSpread.field-0 c.in-FragmentSpread.is refl

pub meet_selection-returns-in_ok-is_plain-in-InlineFragment : goal.meet_selection-returns-in_ok-is_plain-in-InlineFragment
meet_selection-returns-in_ok-is_plain-in-InlineFragment g t c = λ plain.
    let shown = g.S.ScalarValue.shown in
    let s = view_schema shown c.args.schema.now in
    let old = met_at shown s c.args.met.now in
    let new = met_at shown s c.meet_selections-in-InlineFragment.new.met in
    inline-before shown s c.args.parent.now c.args.selection.now old new c.in-InlineFragment.inline c.type_inside-inner.result.now c.in-InlineFragment.is
    c.type_inside-inner.ensures (subst (λ l. Meets s old new (written_on s c.type_inside-inner.result.now (view_selections shown l)))
    c.deref-in-InlineFragment.ensures.value (c.in_ok-is_plain-in-InlineFragment.ensures plain))

pub meet_selections-loop-selection-preserved : goal.meet_selections-loop-selection-preserved
meet_selections-loop-selection-preserved g t c =
    let shown = g.S.ScalarValue.shown in
    let s = view_schema shown c.args.schema.now in
    met-next shown s c.args.parent.now c.args.selections.now (met_at shown s c.args.met.now) c.loop-selection.selection-index c.selection-item.result
    (met_at shown s c.loop-selection.met) (met_at shown s c.meet_selection.new.met) c.loop-selection-test.true c.selection-item.is
    c.loop-selection.invariant (c.in_ok-meet_selection.ensures c.if-not-branch.false)

pub meet_selections-returns : goal.meet_selections-returns
meet_selections-returns g t c = λ plain.
    let shown = g.S.ScalarValue.shown in
    let s = view_schema shown c.args.schema.now in
    met-all shown s c.args.parent.now c.args.selections.now (met_at shown s c.args.met.now) c.loop-selection.selection-index
    (met_at shown s c.loop-selection.met) c.loop-selection-test.false c.loop-selection.invariant
