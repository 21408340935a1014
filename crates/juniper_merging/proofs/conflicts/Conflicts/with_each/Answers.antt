use Rattle.std.proofs.Common.{get_or, subst, sym}
use Rattle.std.specs.Prelude.{take}
use Rattle.std.proofs.lemmas.List.{take_all}
use Rattle.juniper_merging.specs.Conflicts.{AreAllPaired}
use Rattle.juniper_merging.specs.Questions.{seen}
use Rattle.juniper_merging.proofs.Beside.{all-more, all-none}
use Rattle.juniper_merging.proofs.Listing.{in-got}
use Rattle.juniper_merging.proofs.Looked.{no-entry, read-entry}
use Rattle.juniper_merging.proofs.Passed.{one-more}
use Rattle.juniper_merging.proofs.conflicts.Conflicts.with_each.Goals as goal

pub loop-other-init : goal.loop-other-init
loop-other-init c t H F G known each own = all-none (seen t c.args.vertices.now) H F G own.head

pub loop-other-preserved : goal.loop-other-preserved
loop-other-preserved c t H F G known each own =
    let vs = seen t c.args.vertices.now in
    let es = c.args.others.now in
    let i = c.loop-other.other-index in
    let e = get_or es i no-entry in
    let at = read-entry es i c.loop-other-test.true in
    let p = each e (in-got es i e c.loop-other-test.true at) in
    subst (λ l. AreAllPaired vs F G l own.head c.worse-found.result) (sym (one-more es i e c.loop-other-test.true at))
    (subst (AreAllPaired vs F G _ own.head) (sym c.worse-found.ensures)
    (all-more vs H F G (take i es) e p.head own.head c.loop-other.found c.in_ok-clash.clash p.there (c.loop-other.invariant t H F G known each own)
    (c.in_ok-clash.ensures t H F G known p own)))

pub returns : goal.returns
returns c t H F G known each own =
    subst (λ l. AreAllPaired (seen t c.args.vertices.now) F G l own.head c.loop-other.found)
    (take_all c.loop-other.other-index c.args.others.now c.loop-other-test.false) (c.loop-other.invariant t H F G known each own)
