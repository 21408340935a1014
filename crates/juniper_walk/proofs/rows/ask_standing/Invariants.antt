use Rattle.std.proofs.Common.{◌≡◌, ◌≤◌, ◌+◌, ◌-◌, drop, is_some, length, map, take}
use Rattle.graphql_spec.specs.Shown.{Name}
use Rattle.juniper_assemble.specs.SpotView.{view_nodes}
use Rattle.juniper_lookahead.specs.Collected.{view_all}
use Rattle.std.specs.Prelude.{List}
use Rattle.juniper_walk.specs.Plans.{all_expanded, fields_at, key_at}
use Rattle.graphql_spec.specs.Execution.{reply_of}
use Rattle.std.specs.Vec.Iter.{into_iter_items}
use Rattle.juniper_walk.specs.Lists.{picked}
use Rattle.juniper_values.specs.ResolvedView.{AllAnswer}
use Rattle.juniper_walk.specs.Rows.{AreIn, ArePending, AreRows, IsNext, row_fields}
use Rattle.juniper_walk.proofs.rows.ask_standing.Given as goal

-- the rows so far have their answers, or they wait
abbrev pub invariant-loop-number : goal.invariant-loop-number
invariant-loop-number g l =
    let shown = g.S.ScalarValue.shown in
    let W = g.R.Completer.world l.walk.collector.possible in
    let s = all_expanded shown l.walk.collector l.fn.enclosing in
    let k = key_at l.plan l.group.0 in
    let os = view_all shown l.walk.collector (fields_at l.plan l.group.0) in
    record {
      counted : length l.rows.items ≡ length l.spots;
      within : AreIn (length l.spots) l.column.opened.items;
      fields : row_fields shown l.rows.items + length l.column.opened.items + (length l.spots - l.number) ≤ row_fields shown l.initial.rows.items + length l.spots;
      asked : AllAnswer shown (λ m. reply_of W l.concrete m os)
          (map (λ x. x.what) (picked (map (λ r. is_some r.object) (drop l.number l.rows.items)) (view_nodes (drop l.number l.spots))))
          (into_iter_items l.told);
      pending : (ks : List Name) → IsNext W s l.concrete ks k os → AreRows W s l.concrete shown ks (view_nodes l.spots) l.initial.rows.items →
          ArePending W s l.concrete shown ks k os 0 (view_nodes (take l.number l.spots)) (take l.number l.rows.items) l.column.opened.items
          (view_nodes l.column.nodes.items)
          × AreRows W s l.concrete shown ks (view_nodes (drop l.number l.spots)) (drop l.number l.rows.items);
    }
