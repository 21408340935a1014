use Rattle.juniper_merging.specs.MergingGraph.{view_vertex}
use Rattle.juniper_merging.specs.Questions.{seen}
use Rattle.juniper_merging.proofs.Indexed.{index-missing, index-more}
use Rattle.juniper_merging.proofs.Vertices.{found-at, missing-at, vertex-none, vertex-some}
use Rattle.juniper_merging.proofs.key_index.put_entry.Goals as goal

pub returns-in_ok-push_at-in-Some : goal.returns-in_ok-push_at-in-Some
unfolding view_vertex
returns-in_ok-push_at-in-Some c t es is =
    let vs = c.args.vertices.now in
    let x = c.args.entry.now in
    let v = c.in-Some.vertex.now in
    index-more (seen t vs) es x c.args.index.now.items c.push_at.new.lists.items (view_vertex t v)
    (vertex-some t vs x.field v (found-at vs x.field c.get.result c.in-Some.vertex c.get.ensures.lookup.3 c.in-Some.is))
    c.in_ok-push_at-in-Some.ensures is

pub returns-in-None : goal.returns-in-None
returns-in-None c t es is =
    let vs = c.args.vertices.now in
    let x = c.args.entry.now in
    index-missing (seen t vs) es x c.args.index.now.items c.args.index.now.items
    (vertex-none t vs x.field (missing-at vs x.field c.get.result c.get.ensures.lookup.3 c.in-None.is)) is
