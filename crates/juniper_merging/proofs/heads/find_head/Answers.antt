use Rattle.std.proofs.Common.{◌≡◌, Some, get_or, subst, sym}
use Rattle.std.specs.List.{slice_get}
use Rattle.std.proofs.lemmas.Grind.{get_or_default_zero}
use Rattle.juniper_merging.specs.MergingGraph.{FieldAt, view_vertex}
use Rattle.juniper_merging.specs.Nodes.{SameHead}
use Rattle.juniper_merging.specs.Questions.{seen}
use Rattle.juniper_merging.specs.declared.heads.Head.{Head}
use Rattle.juniper_merging.proofs.Looked.{all-before, none-some, one-before, some-none}
use Rattle.juniper_merging.proofs.Told.{some-same}
use Rattle.juniper_merging.proofs.heads.find_head.Goals as goal

pub loop-place-init : goal.loop-place-init
loop-place-init c t p m = absurd m

pub loop-place-preserved : goal.loop-place-preserved
loop-place-preserved c t =
    let vs = seen t c.args.vertices.now in
    let v = view_vertex t c.args.vertex.now in
    let group = c.args.group.now in
    let i = c.loop-place.place-index in
    let p = get_or group i 0 in
    one-before (λ p. (hd : Head) → slice_get c.args.heads.now p ≡ Some hd → (h : FieldAt) → slice_get vs hd.field ≡ Some h → SameHead h v → ⊥) group i p
    c.loop-place-test.true (sym (get_or_default_zero group i p c.loop-place-test.true)) (c.loop-place.invariant t)
    (λ hd e h f s. (c.is_of_head.ensures t).1 c.if-is_of_head.false hd e h f s)

pub returns-then-is_of_head : goal.returns-then-is_of_head
returns-then-is_of_head c t = (
  λ p e.
      let r = (c.is_of_head.ensures t).0 c.if-is_of_head.true in
      (r.0, subst (λ n. slice_get c.args.heads.now n ≡ Some r.0) (some-same e) r.1, r.2),
  λ e. some-none e,
)

pub returns : goal.returns
returns c t = (
  λ p e. none-some e,
  λ e.
      let vs = seen t c.args.vertices.now in
      let v = view_vertex t c.args.vertex.now in
      all-before (λ p. (hd : Head) → slice_get c.args.heads.now p ≡ Some hd → (h : FieldAt) → slice_get vs hd.field ≡ Some h → SameHead h v → ⊥)
      c.args.group.now c.loop-place.place-index c.loop-place-test.false (c.loop-place.invariant t),
)
