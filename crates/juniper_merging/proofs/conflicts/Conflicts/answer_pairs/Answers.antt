use Rattle.std.proofs.Common.{refl, ◌∙◌}
use Rattle.juniper_merging.specs.Questions.{seen}
use Rattle.juniper_merging.specs.declared.conflicts.Conflicts.{Conflicts}
use Rattle.juniper_merging.proofs.Answered.{asks-same, nothing-known}
use Rattle.juniper_merging.proofs.conflicts.Conflicts.answer_pairs.Goals as goal

pub loop-before-init : goal.loop-before-init
loop-before-init c = (
  refl,
  λ t H nodes there is known.
      let old = c.args.self.now in
      let new : Conflicts = record { loud = old.loud; asks = old.asks; known = c.push.new.self; within = old.within } in
      nothing-known (seen t c.args.vertices.now) H old new _ refl refl refl c.in_ok-push.ensures.items c.in_ok-nothing_known.ensures known,
)

pub loop-before-preserved : goal.loop-before-preserved
loop-before-preserved c =
    let i = c.loop-before.invariant in
    let r = c.in_ok-answer_pair.ensures in
    (r.within ∙ i.0, λ t H nodes there is known. r.known t H nodes there is (i.1 t H nodes there is known))

pub returns-clause-known : goal.returns-clause-known
returns-clause-known c t H nodes there is known =
    let now = c.loop-before.self in
    let new : Conflicts = record { loud = now.loud; asks = c.forget_marks.new.asks; known = now.known; within = now.within } in
    asks-same (seen t c.args.vertices.now) H now new refl refl refl c.forget_marks.ensures (c.loop-before.invariant.1 t H nodes there is known)
