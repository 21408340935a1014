use Rattle.std.proofs.Common.{length, sym, ap}
use Rattle.juniper_merging.specs.MergingGraph.{view_vertex}
use Rattle.juniper_field_graph.specs.KindsView.{number_or}
use Rattle.juniper_field_graph.proofs.Found.{found-view}
use Rattle.juniper_field_graph.proofs.graph.shape_at.Goals as goal

pub returns-in-Some : goal.returns-in-Some
unfolding number_or view_vertex
returns-in-Some c t = sym (ap (number_or (λ v. v.shape) (length c.args.vertices.now))
    (found-view (view_vertex t) c.args.vertices.now c.args.number c.get.result c.in-Some.vertex c.get.ensures.lookup.3 c.in-Some.is))
