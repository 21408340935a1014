use Rattle.std.proofs.Common.{map, codes, ap, ◌++◌, ◌∙◌}
use Rattle.juniper_schema.specs.SchemaView.{view_schema}
use Rattle.juniper_schema.specs.Searching.{entries_at, entries_of, view_named}
use Rattle.juniper_schema.proofs.Counting.{all_pushed, one_pushed}
use Rattle.juniper_schema.proofs.faults.entries.entries.Goals as goal

pub loop-name-preserved : goal.loop-name-preserved
loop-name-preserved g c =
    let shown = g.S.ScalarValue.shown in let s = view_schema shown c.args.schema.now in
    one_pushed s c.deref-name-items.result.now c.loop-name.name-index _ c.loop-name-test.true (map (view_named shown) c.loop-name.entries.items)
    (map (view_named shown) c.push_entry.new.entries.items) c.in_ok-push_entry.ensures ∙ c.loop-name.invariant

pub returns : goal.returns
returns g c =
    let shown = g.S.ScalarValue.shown in let s = view_schema shown c.args.schema.now in
    c.in_ok-push_entry-3.ensures ∙ ap (λ l. l ++ entries_at s (codes "_EmptySubscription")) (c.in_ok-push_entry-2.ensures
    ∙ ap (λ l. l ++ entries_at s (codes "_EmptyMutation")) (all_pushed s c.deref-name-items.result.now c.loop-name.name-index
    (map (view_named shown) c.loop-name.entries.items) c.loop-name-test.false
    ∙ (c.loop-name.invariant ∙ ap (λ l. entries_of s (map (λ n. n.now) l)) c.deref-name-items.ensures.value)))
