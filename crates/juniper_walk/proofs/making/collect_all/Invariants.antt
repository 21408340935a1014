use Rattle.std.proofs.Common.{◌≡◌, take}
use Rattle.graphql_spec.specs.Selections.{occurrences}
use Rattle.juniper_lookahead.specs.Collected.{view_all}
use Rattle.juniper_walk.specs.Plans.{all_expanded}
use Rattle.juniper_walk.proofs.making.collect_all.Given as goal

abbrev pub invariant-loop-around : goal.invariant-loop-around
invariant-loop-around g l =
    let shown = g.S.ScalarValue.shown in
    view_all shown l.collector l.fields.items ≡ occurrences (g.R.Conditions.possible l.collector.possible) l.concrete
    (all_expanded shown l.collector (take l.around-index l.enclosing))
