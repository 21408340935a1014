use Rattle.std.proofs.Common.{Some, ap, sym, ◌∙◌}
use Rattle.juniper_merging.specs.MergingGraph.{view_vertex}
use Rattle.juniper_merging.specs.Tables.{below_in}
use Rattle.juniper_field_graph.specs.KindsView.{are_alike}
use Rattle.juniper_field_graph.proofs.Found.{found-view}
use Rattle.juniper_field_graph.proofs.Pushing.{alike-same}
use Rattle.juniper_field_graph.proofs.graph.is_like.Goals as goal

pub returns-then-are_alike : goal.returns-then-are_alike
unfolding are_alike view_vertex
returns-then-are_alike c same t =
    let other = c.in-Some.other.now in
    let vertex = c.args.vertex.now in
    found-view (view_vertex t) c.args.vertices.now c.args.number c.get.result c.in-Some.other c.get.ensures.lookup.3 c.in-Some.is
    ∙ ap Some (alike-same (view_vertex t other) (view_vertex t vertex) (sym c.are_alike.ensures ∙ c.if-are_alike.true) (ap (below_in t)
    (c.select_nothing.ensures same)))
