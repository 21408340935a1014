use Rattle.std.specs.List.{slice_get}
use Rattle.std.proofs.Common.{ℕ, List, Some, ◌≡◌, ◌⊎◌, ◌++◌, ◌∷◌, [], length, map, refl, ap, ◌∙◌, inl, inr, subst, arith}
use Rattle.graphql_spec.specs.Laws.{In}
use Rattle.graphql_spec.specs.Schema.{Schema}
use Rattle.juniper_merging.specs.MergingGraph.{view_vertex}
use Rattle.juniper_merging.specs.Groups.{group_in}
use Rattle.juniper_merging.specs.declared.graph.Vertex.{Vertex}
use Rattle.juniper_meta.specs.MetaView.{view_type}
use Rattle.juniper_schema.specs.SchemaView.{view_schema}
use Rattle.juniper_syntax.specs.DocumentView.{view_field}
use Rattle.juniper_field_graph.specs.GraphView.{table_in}
use Rattle.juniper_field_graph.specs.CallParts.{number_of_parts}
use Rattle.juniper_field_graph.specs.Keys.{IsNumbered, number_at}
use Rattle.juniper_field_graph.specs.KindsView.{has_type, number_among, types_in}
use Rattle.juniper_field_graph.proofs.Choosing.{among-same}
use Rattle.juniper_field_graph.proofs.Graphs.{IsMade, pushed}
use Rattle.juniper_field_graph.proofs.Pushing.{put-back, put-last}
use Rattle.juniper_field_graph.proofs.graph.FieldGraph.push.Goals as goal
use Rattle.juniper_field_graph.proofs.graph.FieldGraph.push.Goals.{then-shape-number+in_ok-push, else-shape-number}

pub returns : goal.returns
unfolding view_vertex
returns g c graph typed once inside =
    let shown = g.S.ScalarValue.shown in
    let s : Schema = view_schema shown c.args.schema.now in
    let old = c.args.self.now in
    let key : ℕ = c.in_ok-key.key in
    let h = view_field shown c.args.field.now in
    let t = view_type c.args.declared_type.now in
    let n = c.len-number.result in
    let count : n ≡ length old.vertices.items = omega (arith, c.len-number.ensures, old.vertices.ok.0) in
    let ks : List ℕ = c.take_group-shapes.result.items in
    let ls : List ℕ = c.if-shape-number.shapes.items in
    let mid = group_in c.take_group-shapes.new.groups in
    let now = group_in c.put_group.new.groups in
    let u = table_in shown old in
    let vs = map (view_vertex u) old.vertices.items in
    let v : Vertex = record {
      key = key;
      parent = c.args.parent;
      on_object = c.is_object.result;
      shape = c.shape_among-shape.result;
      call = c.in_ok-call.call;
      below = c.args.below;
    } in
    let shape : v.shape ≡ number_among (λ w. w.shape) vs (λ r. has_type s t (slice_get (types_in shown old.fields.items) r)) (group_in old.shapes key) =
    among-same (λ w. w.shape) (has_type s t) (map (view_vertex u) c.deref.result.now) vs (types_in shown c.deref-2.result.now)
    (types_in shown old.fields.items) c.deref-3.result.now ks
    (group_in old.shapes key) c.shape_among-shape.result (ap (map (view_vertex u)) c.deref.ensures.value)
    (ap (types_in shown) c.deref-2.ensures.value) c.deref-3.ensures.value c.take_group-shapes.ensures.numbers (c.shape_among-shape.ensures u)
    in
    let made : IsMade shown s old v (record { field = c.args.field; declared_type = c.args.declared_type }) = record {
      typed = typed;
      on_object = c.is_object.ensures;
      shape = shape;
    } in
    let added : (ls ≡ ks ++ n ∷ []) ⊎ (ls ≡ ks) = elim c.if-shape-number.branch [
      | then-shape-number+in_ok-push w ↦ inl (ap (λ z. z.items) w.shapes-is ∙ w.in_ok-push.ensures.items)
      | else-shape-number w ↦ inr (ap (λ z. z.items) w.shapes-is)
    ] in
    let own : v.shape ≡ n → In n (now key) = λ o. elim c.if-shape-number.branch [
      | then-shape-number+in_ok-push w ↦ put-last mid now key ks ls n c.in_ok-put_group.ensures (ap (λ z. z.items) w.shapes-is ∙ w.in_ok-push.ensures.items)
      | else-shape-number w ↦ absurd (w.if-shape-number.false o)
    ] in
    pushed shown s old _ v (record { field = c.args.field; declared_type = c.args.declared_type }) graph made n refl inside count
    c.in_ok-push-2.ensures.items c.in_ok-push-3.ensures.items
    (subst (λ name. IsNumbered name key n (number_at old.keys) (number_at c.number_of_key.new.keys)) c.response_key.ensures c.in_ok-key.ensures)
    (subst (λ parts. IsNumbered parts v.call n (number_of_parts old.calls) (number_of_parts c.number_of_call.new.calls)) c.in_ok-parts.ensures
    c.in_ok-call.ensures)
    (put-back (group_in old.shapes) mid now key ks ls n c.take_group-shapes.ensures.numbers c.take_group-shapes.ensures.taken c.in_ok-put_group.ensures added)
    own c.in_ok-first.first
    (λ r e. subst (λ ws. slice_get (map (view_vertex u) ws) r ≡ Some (view_vertex u v)) c.deref-4.ensures.value (c.in_ok-first.ensures r e u))
    c.unwrap_or.result c.unwrap_or.ensures
