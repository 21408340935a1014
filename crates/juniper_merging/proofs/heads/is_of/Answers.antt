use Rattle.std.proofs.Common.{sym, subst, ◌∙◌}
use Rattle.juniper_merging.specs.MergingGraph.{view_vertex}
use Rattle.juniper_merging.specs.Nodes.{SameHead}
use Rattle.juniper_merging.proofs.Looked.{none-some}
use Rattle.juniper_merging.proofs.OfHeads.{false-true, heads-of, not-of}
use Rattle.juniper_merging.proofs.Told.{some-same}
use Rattle.juniper_merging.proofs.Vertices.{found-at, missing-at, vertex-none, vertex-some}
use Rattle.juniper_merging.proofs.heads.is_of.Goals as goal

pub returns-in-Some : goal.returns-in-Some
returns-in-Some c t =
    let vs = c.args.vertices.now in
    let x = c.in-Some.first.now in
    let y = c.args.vertex.now in
    let there = vertex-some t vs c.args.field x (found-at vs c.args.field c.get.result c.in-Some.first c.get.ensures.lookup.3 c.in-Some.is) in (
      λ e. (view_vertex t x, there, heads-of t x y (sym c.is_same_head.ensures ∙ e)),
      λ e h f s. not-of t x y (sym c.is_same_head.ensures ∙ e) (subst (λ u. SameHead u (view_vertex t y)) (some-same (sym f ∙ there)) s),
    )

pub returns-in-None : goal.returns-in-None
returns-in-None c t =
    let vs = c.args.vertices.now in (
      λ e. false-true e,
      λ e h f. none-some (sym (vertex-none t vs c.args.field (missing-at vs c.args.field c.get.result c.get.ensures.lookup.3 c.in-None.is)) ∙ f),
    )
