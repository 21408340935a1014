use Rattle.std.proofs.Common.{get_or, subst, sym}
use Rattle.std.specs.Prelude.{take}
use Rattle.std.proofs.lemmas.List.{take_all}
use Rattle.juniper_merging.specs.Questions.{seen}
use Rattle.juniper_merging.proofs.Beside.{IsBetween, between-all, between-more, between-none}
use Rattle.juniper_merging.proofs.Listing.{in-got}
use Rattle.juniper_merging.proofs.Looked.{no-entry, read-entry}
use Rattle.juniper_merging.proofs.Passed.{one-more}
use Rattle.juniper_merging.proofs.conflicts.Conflicts.with_entries.Goals as goal

pub loop-other-init : goal.loop-other-init
loop-other-init c t H F G known is one other = between-none (seen t c.args.vertices.now) H F G c.args.entries.now

pub loop-other-preserved : goal.loop-other-preserved
loop-other-preserved c t H F G known is one other =
    let vs = seen t c.args.vertices.now in
    let es = c.args.entries.now in
    let fs = c.args.others.now in
    let i = c.loop-other.other-index in
    let f = get_or fs i no-entry in
    let at = read-entry fs i c.loop-other-test.true in
    let q = other.each f (in-got fs i f c.loop-other-test.true at) in
    subst (λ l. IsBetween vs H F G es l c.worse-found.result) (sym (one-more fs i f c.loop-other-test.true at))
    (subst (IsBetween vs H F G es _) (sym c.worse-found.ensures)
    (between-more vs H F G es (take i fs) f c.loop-other.found c.in_ok-clash.clash q.head (c.loop-other.invariant t H F G known is one other) q.there
    (c.in_ok-clash.ensures t H F G es known is one.each q)))

pub returns : goal.returns
returns c t H F G known is one other =
    let vs = seen t c.args.vertices.now in
    between-all vs H F G c.args.entries.now c.args.others.now c.loop-other.found one other
    (subst (λ l. IsBetween vs H F G c.args.entries.now l c.loop-other.found) (take_all c.loop-other.other-index c.args.others.now c.loop-other-test.false)
    (c.loop-other.invariant t H F G known is one other))
