use Rattle.std.proofs.Common.{ap, subst, sym, ◌∙◌}
use Rattle.graphql_spec.specs.Laws.{In}
use Rattle.juniper_merging.specs.Conflicts.{AreAllPaired}
use Rattle.juniper_merging.specs.MergingGraph.{FieldAt, view_vertex}
use Rattle.juniper_merging.specs.Questions.{seen}
use Rattle.juniper_merging.proofs.Indexed.{beside-index}
use Rattle.juniper_merging.proofs.Looked.{none-some}
use Rattle.juniper_merging.proofs.Told.{some-same}
use Rattle.juniper_merging.proofs.Vertices.{found-at, missing-at, vertex-none, vertex-some}
use Rattle.juniper_merging.proofs.conflicts.Conflicts.with_entry.Goals as goal

pub returns-in_ok-clash-in-Some : goal.returns-in_ok-clash-in-Some
unfolding view_vertex
returns-in_ok-clash-in-Some c t H F G es known is each own =
    let vs = c.args.vertices.now in
    let e = c.args.entry.now in
    let v = c.in-Some.vertex.now in
    let there = vertex-some t vs e.field v (found-at vs e.field c.get.result c.in-Some.vertex c.get.ensures.lookup.3 c.in-Some.is) in
    let x = c.in_ok-clash-in-Some.clash in
    beside-index (seen t vs) F G c.args.index.now es (view_vertex t v) own.head x is (ap (λ (u : FieldAt). u.key) (some-same (sym there ∙ own.there)))
    (subst (λ l. AreAllPaired (seen t vs) F G l own.head x) c.list_at.ensures
    (c.in_ok-clash-in-Some.ensures t H F G known (λ f m. each f (is.only v.key f (subst (In f) c.list_at.ensures m)).0) own))

pub returns-in-None : goal.returns-in-None
returns-in-None c t H F G es known is each own =
    let vs = c.args.vertices.now in
    let e = c.args.entry.now in
    none-some (sym (vertex-none t vs e.field (missing-at vs e.field c.get.result c.get.ensures.lookup.3 c.in-None.is)) ∙ own.there)
