use Rattle.juniper_syntax.specs.DocumentView.{view_directive}
use Rattle.juniper_written.specs.WrittenView.{view_directives_at}
use Rattle.juniper_written.proofs.Lists.{IsSeenSoFar}
use Rattle.juniper_written.proofs.written.write_directives.Given as goal

abbrev pub invariant-loop-directive : goal.invariant-loop-directive
invariant-loop-directive g l =
    let shown = g.S.ScalarValue.shown in
    IsSeenSoFar (view_directive shown) l.directive-items (view_directives_at shown l.initial.into.items) l.directive-index
    (view_directives_at shown l.into.items)
