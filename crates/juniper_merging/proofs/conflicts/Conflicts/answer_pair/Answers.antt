use Rattle.std.proofs.Common.{refl, subst}
use Rattle.juniper_merging.specs.Nodes.{SaysBoth}
use Rattle.juniper_merging.specs.Questions.{seen}
use Rattle.juniper_merging.specs.declared.conflicts.Conflicts.{Conflicts}
use Rattle.juniper_merging.proofs.Answered.{pair-put}
use Rattle.juniper_merging.proofs.conflicts.Conflicts.answer_pair.Goals as goal

pub returns-in_ok-clash-in-Some-clause-known : goal.returns-in_ok-clash-in-Some-clause-known
returns-in_ok-clash-in-Some-clause-known c t H nodes there is known =
    let vs = seen t c.args.vertices.now in
    let a = c.args.number in
    let old = c.args.self.now in
    let new : Conflicts = record { loud = old.loud; asks = old.asks; known = c.put_known.new.known; within = old.within } in
    let x = c.in_ok-clash-in-Some.clash in
    pair-put vs H old new a c.args.place c.in-Some.far x refl refl refl c.put_known.ensures (c.distance_at.ensures c.in-Some.far c.in-Some.is)
    (subst (λ n. SaysBoth vs (H a) (H n) x) c.saturating_sub-other.ensures (c.in_ok-clash-in-Some.ensures t H nodes there is known)) known
