use Rattle.std.proofs.Common.{◌≡◌, ◌+◌, ◌*◌, ◌-◌, ◌≤◌, length, map, take}
use Rattle.graphql_spec.specs.ExactAnswers.{whole}
use Rattle.graphql_spec.specs.GroupLaws.{first_start}
use Rattle.graphql_spec.specs.Selections.{all_below, depth, keys, occurrences}
use Rattle.juniper_syntax.specs.ValueView.{view_object}
use Rattle.juniper_conversions.specs.ErrorView.{view_listed}
use Rattle.juniper_conversions.specs.PathView.{path_place}
use Rattle.juniper_assemble.specs.SpotView.{view_nodes}
use Rattle.juniper_lookahead.specs.Collected.{view_all}
use Rattle.juniper_walk.specs.Plans.{IsStep, all_expanded, fields_at}
use Rattle.graphql_spec.specs.NodeLaws.{AreWalkedOnce}
use Rattle.juniper_walk.specs.PlanWalks.{IsWalking}
use Rattle.juniper_walk.specs.Budget.{fields_in_all, fields_in_entries}
use Rattle.juniper_walk.specs.Entered.{entered_at, entered_in, entered_nodes, entered_rows}
use Rattle.juniper_walk.specs.Rows.{AreAdded, AreRows, listed_of, row_fields, values_of}
use Rattle.juniper_walk.proofs.walking.+walking.Given as goal

-- three times how deep what is selected is nested, one more for nodes of one type, and two more for the nodes of an answer
abbrev pub decreases-execute_selection_set : goal.decreases-execute_selection_set
decreases-execute_selection_set g l = 3 * depth (all_expanded g.S.ScalarValue.shown l.walk.now.collector l.enclosing.now)

abbrev pub decreases-objects_of : goal.decreases-objects_of
decreases-objects_of g l = 3 * depth (all_below (view_all g.S.ScalarValue.shown l.walk.now.collector (fields_at l.plan.now l.group.0))) + 2

abbrev pub decreases-rows_of : goal.decreases-rows_of
decreases-rows_of g l = 3 * depth (all_expanded g.S.ScalarValue.shown l.walk.now.collector l.enclosing.now)

abbrev pub decreases-one_by_one : goal.decreases-one_by_one
decreases-one_by_one g l = 3 * depth (all_expanded g.S.ScalarValue.shown l.walk.now.collector l.enclosing.now) + 1

abbrev pub decreases-objects_of-loop-start : goal.decreases-objects_of-loop-start
decreases-objects_of-loop-start g l = length l.nodes - l.start

-- the groups so far are walked
abbrev pub invariant-execute_selection_set-loop-number : goal.invariant-execute_selection_set-loop-number
invariant-execute_selection_set-loop-number g l =
    let shown = g.S.ScalarValue.shown in
    let W = g.R.Completer.world l.walk.collector.possible in
    record {
      step : IsStep shown l.walk.collector (g.R.Resolver.asks l.walk.collector.possible) (g.R.Conditions.possible l.walk.collector.possible) l.initial.plan
          l.plan;
      walked : IsWalking W (path_place l.path.value) l.concrete l.node
          (occurrences W.possible l.concrete (all_expanded shown l.walk.collector l.enclosing))
          (take (l.number - l.fn.groups.first.0) (keys (occurrences W.possible l.concrete (all_expanded shown l.walk.collector l.enclosing))))
          (view_object shown l.entries) (map (view_listed shown) l.errors.items);
      counted : fields_in_entries (view_object shown l.entries) + l.plan.left + (l.fn.groups.end.0 - l.number)
          ≤ l.initial.plan.left + (l.fn.groups.end.0 - l.fn.groups.first.0);
      entered : l.initial.plan.left ≤ l.plan.left + entered_at W l.concrete l.node (all_expanded shown l.walk.collector l.enclosing)
          (take (l.number - l.fn.groups.first.0) (keys (occurrences W.possible l.concrete (all_expanded shown l.walk.collector l.enclosing))));
    }

-- and the nodes so far
abbrev pub invariant-objects_of-loop-start : goal.invariant-objects_of-loop-start
invariant-objects_of-loop-start g l =
    let shown = g.S.ScalarValue.shown in
    record {
      step : IsStep shown l.walk.collector (g.R.Resolver.asks l.walk.collector.possible) (g.R.Conditions.possible l.walk.collector.possible) l.initial.plan
          l.plan;
      inside : l.start ≤ length l.nodes;
      walked : AreWalkedOnce whole first_start (g.R.Completer.world l.walk.collector.possible)
          (all_below (view_all shown l.walk.collector (fields_at l.initial.plan l.fn.group.0))) (view_nodes (take l.start l.nodes))
          (values_of shown l.done.items) (listed_of shown l.done.items);
      counted : fields_in_all (values_of shown l.done.items) + l.plan.left ≤ l.initial.plan.left;
      entered : l.initial.plan.left ≤ l.plan.left + entered_nodes (g.R.Completer.world l.walk.collector.possible)
          (all_below (view_all shown l.walk.collector (fields_at l.initial.plan l.fn.group.0))) (view_nodes (take l.start l.nodes));
    }

-- the objects of the nodes so far were put behind those that were there
abbrev pub invariant-one_by_one-loop-spot : goal.invariant-one_by_one-loop-spot
invariant-one_by_one-loop-spot g l =
    let shown = g.S.ScalarValue.shown in
    record {
      step : IsStep shown l.walk.collector (g.R.Resolver.asks l.walk.collector.possible) (g.R.Conditions.possible l.walk.collector.possible) l.initial.plan
          l.plan;
      added : AreAdded (g.R.Completer.world l.walk.collector.possible) (all_expanded shown l.walk.collector l.enclosing) shown
          (view_nodes (take l.spot-index l.nodes)) l.initial.done.items l.done.items;
      inside : l.spot-index ≤ length l.nodes;
      counted : fields_in_all (values_of shown l.done.items) + l.plan.left
          ≤ fields_in_all (values_of shown l.initial.done.items) + l.initial.plan.left + l.spot-index * (l.fn.groups.end.0 - l.fn.groups.first.0);
      entered : l.initial.plan.left ≤ l.plan.left + entered_in (g.R.Completer.world l.walk.collector.possible) l.concrete
          (all_expanded shown l.walk.collector l.enclosing) (view_nodes (take l.spot-index l.nodes));
    }

-- the groups so far are walked in each row
abbrev pub invariant-rows_of-loop-number : goal.invariant-rows_of-loop-number
invariant-rows_of-loop-number g l =
    let shown = g.S.ScalarValue.shown in
    let W = g.R.Completer.world l.walk.collector.possible in
    let s = all_expanded shown l.walk.collector l.enclosing in
    record {
      step : IsStep shown l.walk.collector (g.R.Resolver.asks l.walk.collector.possible) (g.R.Conditions.possible l.walk.collector.possible) l.initial.plan
          l.plan;
      counted : length l.rows.items ≡ length l.nodes;
      walked : AreRows W s l.concrete shown (take (l.number - l.fn.groups.first.0) (keys (occurrences W.possible l.concrete s)))
          (view_nodes l.nodes) l.rows.items;
      fields : row_fields shown l.rows.items + l.plan.left + length l.nodes * (l.fn.groups.end.0 - l.number)
          ≤ l.initial.plan.left + length l.nodes * (l.fn.groups.end.0 - l.fn.groups.first.0);
      entered : l.initial.plan.left ≤ l.plan.left + entered_rows W l.concrete s
          (take (l.number - l.fn.groups.first.0) (keys (occurrences W.possible l.concrete s))) (view_nodes l.nodes);
    }
