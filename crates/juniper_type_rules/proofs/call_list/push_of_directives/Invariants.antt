use Rattle.juniper_syntax.specs.DocumentView.{view_directive}
use Rattle.juniper_type_rules.specs.CallView.{view_calls}
use Rattle.juniper_type_rules.specs.Placing.{call_of_directive}
use Rattle.juniper_written.proofs.Lists.{IsFlatSoFar}
use Rattle.juniper_type_rules.proofs.call_list.push_of_directives.Given as goal

abbrev pub invariant-loop-index : goal.invariant-loop-index
invariant-loop-index g l =
    let shown = g.S.ScalarValue.shown in
    IsFlatSoFar (λ d. call_of_directive (view_directive shown d.now)) l.directives.items (view_calls shown l.initial.calls.items) l.index
    (view_calls shown l.calls.items)
