use Rattle.std.proofs.Common.{[]}
use Rattle.juniper_type_rules.specs.Positions.{places_in_call}
use Rattle.juniper_schema.specs.SchemaView.{view_schema}
use Rattle.juniper_written.proofs.Lists.{IsFlatSoFar}
use Rattle.juniper_type_rules.specs.CallView.{view_call}
use Rattle.juniper_type_rules.specs.UsesView.{view_places}
use Rattle.juniper_type_rules.proofs.places.places_in_calls.Given as goal

abbrev pub invariant-loop-call : goal.invariant-loop-call
invariant-loop-call g l =
    let shown = g.S.ScalarValue.shown in
    IsFlatSoFar (λ x. places_in_call (view_schema shown l.schema) (view_call shown x)) l.calls [] l.call-index (view_places l.places.items)
