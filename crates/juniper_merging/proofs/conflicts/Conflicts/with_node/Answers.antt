use Rattle.std.proofs.Common.{◌≡◌, [], subst, sym, ◌∙◌}
use Rattle.juniper_merging.specs.Conflicts.{IsIndexOf}
use Rattle.juniper_merging.specs.Nodes.{AreEntries, SaysBoth, flat}
use Rattle.juniper_merging.specs.Questions.{seen}
use Rattle.juniper_merging.proofs.Beside.{itself-alike, node-entries, node-parts}
use Rattle.juniper_merging.proofs.Joint.{says-both-alike, says-turned}
use Rattle.juniper_merging.proofs.conflicts.Conflicts.with_node.Goals as goal

pub returns-then-is_empty : goal.returns-then-is_empty
returns-then-is_empty c t H l alone node other is known =
    let vs = seen t c.args.vertices.now in
    let n = c.args.node.now in
    let o = c.args.others.now in
    let none : o.parts.items ≡ [] = sym c.deref.ensures.value ∙ c.is_empty.ensures.none c.if-is_empty.true in
    let p = node-entries vs H n (H c.args.number) alone node in
    let q = node-entries vs H o l none other in
    let own = sym c.deref-then-is_empty.ensures.value in
    says-both-alike vs (H c.args.number) l p.0 q.0 c.in_ok-clash.clash p.1 q.1
    (c.in_ok-clash.ensures t H p.0 q.0 known (subst (IsIndexOf vs c.args.index.now) own is) (subst (AreEntries vs H p.0) own p.2)
    (subst (AreEntries vs H q.0) (sym c.deref-then-is_empty-2.ensures.value) q.2))

pub returns : goal.returns
returns c t H l alone node other is known =
    let vs = seen t c.args.vertices.now in
    let o = c.args.others.now in
    let x = c.in_ok-clash-2.clash in
    let some : o.parts.items ≡ [] → ⊥ = λ e. c.is_empty.ensures.some c.if-is_empty.false (c.deref.ensures.value ∙ e) in
    let q = node-parts vs H o l some other in
    says-both-alike vs (H c.args.number) l (H c.args.number) (flat H o.parts.items) x (itself-alike (H c.args.number)) q.1
    (says-turned vs (flat H o.parts.items) (H c.args.number) x
    (subst (λ ps. SaysBoth vs (flat H ps) (H c.args.number) x) c.deref-2.ensures.value (c.in_ok-clash-2.ensures vs H known)))
