use Rattle.juniper_merging.specs.MergingGraph.{view_vertex}
use Rattle.juniper_merging.specs.Questions.{seen}
use Rattle.juniper_merging.proofs.Indexed.{cleared-at, cleared-missing}
use Rattle.juniper_merging.proofs.Vertices.{found-at, missing-at, vertex-none, vertex-some}
use Rattle.juniper_merging.proofs.key_index.clear_entry.Goals as goal

pub returns-in-Some : goal.returns-in-Some
unfolding view_vertex
returns-in-Some c t =
    let vs = c.args.vertices.now in
    let x = c.args.entry.now in
    let v = c.in-Some.vertex.now in
    cleared-at (seen t vs) x (view_vertex t v) c.args.index.now.items c.clear_at.new.lists.items
    (vertex-some t vs x.field v (found-at vs x.field c.get.result c.in-Some.vertex c.get.ensures.lookup.3 c.in-Some.is)) c.clear_at.ensures

pub returns-in-None : goal.returns-in-None
returns-in-None c t =
    let vs = c.args.vertices.now in
    let x = c.args.entry.now in
    cleared-missing (seen t vs) x c.args.index.now.items
    (vertex-none t vs x.field (missing-at vs x.field c.get.result c.get.ensures.lookup.3 c.in-None.is))
