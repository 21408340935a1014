use Rattle.std.proofs.Common.{◌≡◌, take}
use Rattle.graphql_spec.specs.Selections.{all_below}
use Rattle.juniper_lookahead.specs.Collected.{view_all}
use Rattle.juniper_walk.specs.Plans.{all_expanded}
use Rattle.juniper_walk.proofs.making.merge_selection_sets.Given as goal

abbrev pub invariant-loop-occurrence : goal.invariant-loop-occurrence
invariant-loop-occurrence g l =
    let shown = g.S.ScalarValue.shown in
    all_expanded shown l.collector l.made.items ≡ all_below (view_all shown l.collector (take l.occurrence-index l.fields))
