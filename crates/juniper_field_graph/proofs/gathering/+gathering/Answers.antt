use Rattle.std.proofs.Common.{refl, sym, ap, subst, ◌∙◌}
use Rattle.graphql_spec.specs.Types.{innermost}
use Rattle.graphql_spec.specs.Documents as spec
use Rattle.juniper_schema.specs.SchemaView.{view_schema}
use Rattle.juniper_syntax.specs.DocumentView.{put_selection, view_selections, view_set}
use Rattle.juniper_syntax.specs.declared.ast.Selection as selections
use Rattle.juniper_field_graph.specs.Gathering.{IsGathered, IsReadyIn, set_named}
use Rattle.juniper_field_graph.specs.GraphView.{table_in}
use Rattle.juniper_field_graph.proofs.Holding.{set-none, set-some}
use Rattle.juniper_field_graph.proofs.Steps.{field-step, inline-step, none-as, set-as, set-gathered, so-far-all, so-far-next, so-far-none, spread-step}
use Rattle.juniper_field_graph.proofs.Steps.{unknown-step}
use Rattle.juniper_field_graph.proofs.gathering.+gathering.Goals as goal
use Rattle.juniper_field_graph.proofs.gathering.+gathering.Goals.{gather_field-in-Some+in_ok-set-in-Some, gather_field-in-None}

pub gather_selections-loop-selection-preserved : goal.gather_selections-loop-selection-preserved
gather_selections-loop-selection-preserved g t c fs ends unknown is ready =
    let shown = g.S.ScalarValue.shown in
    let before = c.loop-selection.invariant fs ends unknown is ready in
    so-far-next shown (view_schema shown c.args.known.now.schema.now) fs ends
    (set_named c.args.known.now.fragments.now) c.args.parent.now c.args.gathered.now.graph c.loop-selection.gathered.graph
    c.gather_selection.new.gathered.graph
    c.args.gathered.now.sets.items c.loop-selection.gathered.sets.items
    c.gather_selection.new.gathered.sets.items c.args.numbers.now c.loop-selection.numbers c.gather_selection.new.numbers
    c.args.selections.now c.loop-selection.selection-index c.selection-item.result c.loop-selection-test.true c.selection-item.is before
    (c.in_ok-gather_selection.ensures fs ends unknown before.0.grown.graph)

pub gather_selections-loop-selection-init : goal.gather_selections-loop-selection-init
gather_selections-loop-selection-init g t c fs ends unknown is ready =
    let shown = g.S.ScalarValue.shown in
    so-far-none shown (view_schema shown c.args.known.now.schema.now) fs ends
    (set_named c.args.known.now.fragments.now) c.args.parent.now c.args.gathered.now.graph
    c.args.gathered.now.sets.items c.args.numbers.now c.args.selections.now is ready

pub gather_selections-returns : goal.gather_selections-returns
gather_selections-returns g t c fs ends unknown is ready =
    let shown = g.S.ScalarValue.shown in
    so-far-all shown (view_schema shown c.args.known.now.schema.now) fs ends (set_named c.args.known.now.fragments.now) c.args.parent.now
    c.args.gathered.now.graph c.loop-selection.gathered.graph c.args.gathered.now.sets.items c.loop-selection.gathered.sets.items
    c.args.numbers.now c.loop-selection.numbers c.args.selections.now c.loop-selection.selection-index c.loop-selection-test.false
    (c.loop-selection.invariant fs ends unknown is ready)

pub gather_set-returns : goal.gather_set-returns
gather_set-returns g t c fs ends unknown is ready =
    let shown = g.S.ScalarValue.shown in
    let s = view_schema shown c.args.known.now.schema.now in
    set-gathered shown s fs c.args.gathered.now.graph c.gather_selections.new.gathered.graph c.put_set.new.gathered.graph
    c.args.gathered.now.sets.items c.gather_selections.new.gathered.sets.items c.put_set.new.gathered.sets.items c.new-numbers.result
    c.gather_selections.new.numbers c.args.parent.now (view_selections shown c.args.selections.now) c.in_ok-set.set c.new-numbers.ensures
    (c.in_ok-gather_selections.ensures fs ends unknown is ready) (c.in_ok-set.ensures s)

pub gather_field-returns : goal.gather_field-returns
gather_field-returns g t c fs ends unknown is rest ready =
    let shown = g.S.ScalarValue.shown in
    let s = view_schema shown c.args.known.now.schema.now in
    let old = c.args.gathered.now in
    let now = c.match-field.gathered in
    let declared = c.declared_type-declared_type.ensures unknown in
    elim c.match-field.branch [
      | gather_field-in-Some+in_ok-set-in-Some w ↦
          field-step shown s fs ends (set_named c.args.known.now.fragments.now) c.args.parent.now old.graph now.graph c.put_field.new.graph
          old.sets.items now.sets.items c.args.numbers.now c.put_field.new.numbers rest
          (selections.Field c.args.field.now) c.args.field.now (view_selections shown w.deref.result.now) c.match-field.below refl
          (ap (view_set shown) w.in-Some.is ∙ sym (ap (view_selections shown) w.deref.ensures.value)) ready
          (λ r. set-as shown s fs old.graph w.gather_set.new.gathered now old.sets.items w.innermost_name-inner.result.now _
          (view_selections shown w.deref.result.now) w.in_ok-set-in-Some.set c.match-field.below
          w.gathered-is w.below-is (w.innermost_name-inner.ensures ∙ ap innermost declared) (w.in_ok-set-in-Some.ensures fs ends unknown is r))
          (λ graph once inside. c.in_ok-put_field.ensures graph declared once inside)
      | gather_field-in-None w ↦
          field-step shown s fs ends (set_named c.args.known.now.fragments.now) c.args.parent.now old.graph now.graph c.put_field.new.graph
          old.sets.items now.sets.items c.args.numbers.now c.put_field.new.numbers rest
          (selections.Field c.args.field.now) c.args.field.now spec.end c.match-field.below refl (ap (view_set shown) w.in-None.is) ready
          (λ r. none-as shown s fs old now c.match-field.below _ w.gathered-is w.below-is is)
          (λ graph once inside. c.in_ok-put_field.ensures graph declared once inside)
    ]

pub gather_selection-returns-in_ok-gather_field-in-Field : goal.gather_selection-returns-in_ok-gather_field-in-Field
gather_selection-returns-in_ok-gather_field-in-Field g t c fs ends unknown is rest ready =
    let shown = g.S.ScalarValue.shown in
    let s = view_schema shown c.args.known.now.schema.now in
    subst (λ x. IsGathered shown s fs c.args.gathered.now.graph c.gather_field.new.gathered.graph c.args.gathered.now.sets.items
    c.gather_field.new.gathered.sets.items c.args.numbers.now c.gather_field.new.numbers c.args.parent.now rest (put_selection shown x rest))
    (sym c.in-Field.is) (c.in_ok-gather_field-in-Field.ensures fs ends unknown is rest
    (subst (λ x. IsReadyIn shown s fs c.args.gathered.now.graph (set_named c.args.known.now.fragments.now) (put_selection shown x rest)) c.in-Field.is
    ready))

pub gather_selection-returns-in_ok-put-in-Some : goal.gather_selection-returns-in_ok-put-in-Some
gather_selection-returns-in_ok-put-in-Some g t c fs ends unknown is rest ready =
    let shown = g.S.ScalarValue.shown in
    spread-step shown (view_schema shown c.args.known.now.schema.now) fs ends
    (set_named c.args.known.now.fragments.now) c.args.parent.now c.args.gathered.now.graph
    c.args.gathered.now.sets.items c.args.numbers.now c.put.new.self
    rest c.args.selection.now c.in-FragmentSpread.spread c.in-Some.held.now c.in-FragmentSpread.is is ready
    (set-some c.args.known.now.fragments.now c.in-FragmentSpread.spread.item.name.item.now c.in-Some.held.now c.in-Some.ensures.value)
    (c.in_ok-put-in-Some.ensures (table_in shown c.args.gathered.now.graph))

pub gather_selection-returns-in-None : goal.gather_selection-returns-in-None
gather_selection-returns-in-None g t c fs ends unknown is rest ready =
    let shown = g.S.ScalarValue.shown in
    unknown-step shown (view_schema shown c.args.known.now.schema.now) fs ends
    (set_named c.args.known.now.fragments.now) c.args.parent.now c.args.gathered.now.graph c.args.gathered.now.sets.items c.args.numbers.now
    rest c.args.selection.now c.in-FragmentSpread.spread c.in-FragmentSpread.is is ready
    (set-none c.args.known.now.fragments.now c.in-FragmentSpread.spread.item.name.item.now c.in-None.ensures.value)

pub gather_selection-returns-in_ok-gather_selections-in-InlineFragment : goal.gather_selection-returns-in_ok-gather_selections-in-InlineFragment
gather_selection-returns-in_ok-gather_selections-in-InlineFragment g t c fs ends unknown is rest ready =
    let shown = g.S.ScalarValue.shown in
    let s = view_schema shown c.args.known.now.schema.now in
    inline-step shown s fs ends (set_named c.args.known.now.fragments.now) c.args.parent.now c.args.gathered.now.graph
    c.gather_selections.new.gathered.graph c.args.gathered.now.sets.items c.gather_selections.new.gathered.sets.items c.args.numbers.now
    c.gather_selections.new.numbers rest c.args.selection.now c.in-InlineFragment.inline
    (view_selections shown c.deref.result.now) c.in-InlineFragment.is (sym (ap (view_selections shown) c.deref.ensures.value)) ready
    (λ r. subst (λ q. IsGathered shown s fs c.args.gathered.now.graph c.gather_selections.new.gathered.graph
    c.args.gathered.now.sets.items c.gather_selections.new.gathered.sets.items c.args.numbers.now c.gather_selections.new.numbers q spec.end
    (view_selections shown c.deref.result.now)) c.type_inside-inner.ensures (c.in_ok-gather_selections-in-InlineFragment.ensures fs ends unknown is r))
