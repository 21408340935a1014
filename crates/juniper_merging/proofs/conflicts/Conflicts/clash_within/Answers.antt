use Rattle.std.proofs.Common.{◌≡◌, [], subst, sym, ◌∙◌}
use Rattle.juniper_merging.specs.Conflicts.{IsIndexOf}
use Rattle.juniper_merging.specs.Nodes.{AreEntries, Says, flat}
use Rattle.juniper_merging.specs.Questions.{seen}
use Rattle.juniper_merging.proofs.Beside.{node-entries, node-parts}
use Rattle.juniper_merging.proofs.Joint.{says-alike}
use Rattle.juniper_merging.proofs.conflicts.Conflicts.clash_within.Goals as goal

pub returns-then-is_empty : goal.returns-then-is_empty
returns-then-is_empty c t H l known node is =
    let vs = seen t c.args.vertices.now in
    let n = c.args.node.now in
    let none : n.parts.items ≡ [] = sym c.deref.ensures.value ∙ c.is_empty.ensures.none c.if-is_empty.true in
    let q = node-entries vs H n l none node in
    let r = c.in_ok-clash.ensures t H q.0 known
    (subst (AreEntries vs H q.0) (sym c.deref-then-is_empty.ensures.value) q.2) is in
    (subst (IsIndexOf vs c.entries_within.new.index.items) c.deref-then-is_empty.ensures.value r.0, says-alike vs l q.0 c.in_ok-clash.clash q.1 r.1)

pub returns : goal.returns
returns c t H l known node is =
    let vs = seen t c.args.vertices.now in
    let n = c.args.node.now in
    let x = c.in_ok-clash-2.clash in
    let some : n.parts.items ≡ [] → ⊥ = λ e. c.is_empty.ensures.some c.if-is_empty.false (c.deref.ensures.value ∙ e) in
    let q = node-parts vs H n l some node in (
      subst (IsIndexOf vs c.args.index.now.items) (sym q.0) is,
      says-alike vs l (flat H n.parts.items) x q.1 (subst (λ ps. Says vs (flat H ps) x) c.deref-2.ensures.value (c.in_ok-clash-2.ensures vs H known)),
    )
