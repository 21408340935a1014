use Rattle.std.proofs.Common.{◌≡◌, List, None, map}
use Rattle.graphql_spec.specs.Shown.{Name}
use Rattle.graphql_spec.specs.Documents as documents
use Rattle.graphql_spec.specs.Fields as fields
use Rattle.graphql_spec.specs.Fragments.{HasNoCycle}
use Rattle.juniper_meta.specs.MetaView.{view_type}
use Rattle.juniper_schema.specs.SchemaView.{view_schema}
use Rattle.juniper_written.specs.Order.{IsInOrder}
use Rattle.juniper_syntax.specs.DocumentView.{view_fragment}
use Rattle.juniper_field_graph.specs.Gathering.{AreWritten, list_named, set_named}
use Rattle.juniper_field_graph.specs.GraphView.{IsGraphOf}
use Rattle.juniper_field_graph.proofs.HoldingSteps.{AreHeldSoFar}
use Rattle.juniper_field_graph.proofs.overlapping_fields_can_be_merged.hold_fragments.Given as goal

abbrev pub invariant-loop-index : goal.invariant-loop-index
invariant-loop-index g l =
    let shown = g.S.ScalarValue.shown in
    let s = view_schema shown l.schema in
    (fs : List documents.Fragment) → HasNoCycle fs → view_type l.undeclared ≡ fields.declared_type None → AreWritten fs →
    IsInOrder fs (map (λ f. view_fragment shown f.now) l.order.items) →
    ((k : Name) → set_named l.initial.held k ≡ None) → ((k : Name) → list_named l.initial.listed k ≡ None) → IsGraphOf shown s l.initial.gathered.graph →
    AreHeldSoFar shown s fs l.initial.gathered.graph l.gathered.graph (set_named l.held) (list_named l.listed) l.order.items l.index
