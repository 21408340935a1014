use Rattle.std.specs.List.{slice_get}
use Rattle.juniper_meta.specs.MetaView.{view_type}
use Rattle.juniper_schema.specs.SchemaView.{view_schema}
use Rattle.juniper_field_graph.specs.KindsView.{has_type, types_in}
use Rattle.juniper_field_graph.proofs.Choosing.{IsLeft}
use Rattle.juniper_field_graph.proofs.graph.shape_among.Given as goal

-- what is left decides
abbrev pub invariant-loop-kind : goal.invariant-loop-kind
invariant-loop-kind g l =
    let shown = g.S.ScalarValue.shown in
    IsLeft (λ r. has_type (view_schema shown l.schema) (view_type l.declared_type) (slice_get (types_in shown l.fields) r)) l.kinds l.kind-index
