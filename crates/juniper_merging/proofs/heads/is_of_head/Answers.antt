use Rattle.std.proofs.Common.{◌≡◌, Some, sym, subst, ◌∙◌}
use Rattle.std.specs.List.{slice_get}
use Rattle.juniper_merging.specs.Questions.{seen}
use Rattle.juniper_merging.specs.declared.heads.Head.{Head}
use Rattle.juniper_merging.proofs.Looked.{none-some}
use Rattle.juniper_merging.proofs.OfHeads.{false-true}
use Rattle.juniper_merging.proofs.Told.{some-same}
use Rattle.juniper_merging.proofs.Vertices.{found-at, missing-at}
use Rattle.juniper_merging.proofs.heads.is_of_head.Goals as goal

pub returns-in-Some : goal.returns-in-Some
returns-in-Some c t =
    let heads = c.args.heads.now in
    let p = c.args.place in
    let hd = c.in-Some.head.now in
    let there = found-at heads p c.get.result c.in-Some.head c.get.ensures.lookup.3 c.in-Some.is in
    let r = c.is_of.ensures t in (
      λ e. (hd, there, r.0 e),
      λ e he f h g s. r.1 e h (subst (λ (x : Head). slice_get (seen t c.args.vertices.now) x.field ≡ Some h) (some-same (sym f ∙ there)) g) s,
    )

pub returns-in-None : goal.returns-in-None
returns-in-None c t = (
  λ e. false-true e,
  λ e he f. none-some (sym (missing-at c.args.heads.now c.args.place c.get.result c.get.ensures.lookup.3 c.in-None.is) ∙ f),
)
