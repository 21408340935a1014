use Rattle.juniper_type_rules.specs.CallView.{view_calls}
use Rattle.juniper_type_rules.specs.PlacedView.{view_placed}
use Rattle.juniper_type_rules.specs.Placing.{call_of_field}
use Rattle.juniper_written.proofs.Lists.{IsFlatSoFar}
use Rattle.juniper_type_rules.proofs.call_list.push_of_fields.Given as goal

abbrev pub invariant-loop-placed : goal.invariant-loop-placed
invariant-loop-placed g l =
    let shown = g.S.ScalarValue.shown in
    IsFlatSoFar (λ p. call_of_field (view_placed shown p)) l.placed-items (view_calls shown l.initial.calls.items) l.placed-index
    (view_calls shown l.calls.items)
