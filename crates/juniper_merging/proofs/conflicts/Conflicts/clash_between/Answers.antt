use Rattle.std.proofs.Common.{◌≡◌, [], subst, sym, ◌∙◌}
use Rattle.juniper_merging.specs.Nodes.{SaysBoth, flat}
use Rattle.juniper_merging.specs.Questions.{seen}
use Rattle.juniper_merging.proofs.Beside.{itself-alike, node-parts}
use Rattle.juniper_merging.proofs.Joint.{says-both-alike}
use Rattle.juniper_merging.proofs.Vertices.{found-at}
use Rattle.juniper_merging.proofs.conflicts.Conflicts.clash_between.Goals as goal

pub returns-then-not-is_empty : goal.returns-then-not-is_empty
returns-then-not-is_empty c t H nodes there is known =
    let vs = seen t c.args.vertices.now in
    let n = c.args.node.now in
    let a = c.args.number in
    let b = c.args.other in
    let x = c.in_ok-clash.clash in
    let some : n.parts.items ≡ [] → ⊥ = λ e. c.is_empty.ensures.some c.if-not-is_empty.true (c.deref.ensures.value ∙ e) in
    let q = node-parts vs H n (H a) some (nodes a n there) in
    says-both-alike vs (H a) (H b) (flat H n.parts.items) (H b) x q.1 (itself-alike (H b))
    (subst (λ ps. SaysBoth vs (flat H ps) (H b) x) c.deref-then-not-is_empty.ensures.value (c.in_ok-clash.ensures vs H known))

pub returns-in_ok-clash-in-Some : goal.returns-in_ok-clash-in-Some
returns-in_ok-clash-in-Some c t H nodes there is known =
    let n = c.args.node.now in
    let b = c.args.other in
    let none : n.parts.items ≡ [] = sym c.deref.ensures.value ∙ c.is_empty.ensures.none c.if-not-is_empty.false in
    c.in_ok-clash-in-Some.ensures t H (H b) none (nodes c.args.number n there)
    (nodes b c.in-Some.others.now (found-at c.args.nodes.now b c.get.result c.in-Some.others c.get.ensures.lookup.3 c.in-Some.is)) is known
