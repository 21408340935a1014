use Rattle.std.specs.List.{slice_get}
use Rattle.std.proofs.Common.{ℕ, Bool}
use Rattle.juniper_meta.specs.MetaView.{view_type}
use Rattle.juniper_schema.specs.SchemaView.{view_schema}
use Rattle.juniper_field_graph.specs.KindsView.{has_type, types_in}
use Rattle.juniper_field_graph.proofs.Choosing.{kind-passed, kind-taken, kind-missing}
use Rattle.juniper_field_graph.proofs.graph.shape_among.Goals as goal

pub loop-kind-preserved : goal.loop-kind-preserved
loop-kind-preserved g c =
    let shown = g.S.ScalarValue.shown in
    let test : ℕ → Bool = λ r. has_type (view_schema shown c.args.schema.now) (view_type c.args.declared_type.now)
    (slice_get (types_in shown c.args.fields.now) r) in
    kind-passed test c.args.kinds.now c.loop-kind.kind-index c.has_type.result c.loop-kind-test.true c.has_type.ensures c.if-has_type.false
    c.loop-kind.invariant

pub returns-then-has_type : goal.returns-then-has_type
returns-then-has_type g c t =
    let shown = g.S.ScalarValue.shown in
    let test : ℕ → Bool = λ r. has_type (view_schema shown c.args.schema.now) (view_type c.args.declared_type.now)
    (slice_get (types_in shown c.args.fields.now) r) in
    kind-taken test c.args.kinds.now (λ v. v.shape) c.args.vertices.now t c.loop-kind.kind-index c.has_type.result c.shape_at.result
    c.loop-kind-test.true c.has_type.ensures c.if-has_type.true (c.shape_at.ensures t) c.loop-kind.invariant

pub returns : goal.returns
returns g c t =
    let shown = g.S.ScalarValue.shown in
    let test : ℕ → Bool = λ r. has_type (view_schema shown c.args.schema.now) (view_type c.args.declared_type.now)
    (slice_get (types_in shown c.args.fields.now) r) in
    kind-missing test c.args.kinds.now (λ v. v.shape) c.args.vertices.now t c.loop-kind.kind-index c.loop-kind-test.false c.loop-kind.invariant
