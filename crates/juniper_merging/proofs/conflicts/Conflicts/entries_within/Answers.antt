use Rattle.std.proofs.Common.{ap, get_or, subst, sym, ◌∙◌}
use Rattle.std.specs.Prelude.{take}
use Rattle.std.proofs.lemmas.List.{take_all}
use Rattle.juniper_merging.specs.Conflicts.{IsIndexOf}
use Rattle.juniper_merging.specs.Questions.{seen, worse}
use Rattle.juniper_merging.proofs.Beside.{IsWithin, within-all, within-more, within-none}
use Rattle.juniper_merging.proofs.Listing.{in-got, in-taken, two-taken}
use Rattle.juniper_merging.proofs.Looked.{no-entry, read-entry}
use Rattle.juniper_merging.proofs.Passed.{one-more}
use Rattle.juniper_merging.proofs.conflicts.Conflicts.entries_within.Goals as goal

pub loop-entry-init : goal.loop-entry-init
loop-entry-init c t H fields known are is = (is, within-none (seen t c.args.vertices.now) H fields)

pub loop-entry-preserved : goal.loop-entry-preserved
loop-entry-preserved c t H fields known are is =
    let vs = seen t c.args.vertices.now in
    let es = c.args.entries.now in
    let i = c.loop-entry.entry-index in
    let e = get_or es i no-entry in
    let below = c.loop-entry-test.true in
    let at = read-entry es i below in
    let p = are.each e (in-got es i e below at) in
    let r = c.loop-entry.invariant t H fields known are is in
    let before = take i es in
    let all = c.in_ok-clash.ensures t H fields fields before known (subst (λ l. IsIndexOf vs l before) (sym c.deref.ensures.value) r.0)
    (λ f m. are.each f (in-taken es i f m)) p in (
      subst (IsIndexOf vs c.put_entry.new.index.items) (sym (one-more es i e below at)) (c.in_ok-put_entry.ensures t before r.0),
      subst (λ l. IsWithin vs H fields l c.worse-found.result) (sym (one-more es i e below at))
          (subst (IsWithin vs H fields _) (sym (c.worse-found.ensures ∙ ap (worse c.loop-entry.found) c.worse.ensures))
          (within-more vs H fields before e c.loop-entry.found c.in_ok-own.own c.in_ok-clash.clash r.1 p (c.in_ok-own.ensures.many vs H known)
          c.in_ok-own.ensures.lone all (λ f m. are.apart f e (two-taken es i f e below at m)))),
    )

pub returns : goal.returns
returns c t H fields known are is =
    let vs = seen t c.args.vertices.now in
    let es = c.args.entries.now in
    let all = take_all c.loop-entry.entry-index es c.loop-entry-test.false in
    let r = c.loop-entry.invariant t H fields known are is in (
      subst (IsIndexOf vs c.loop-entry.index.items) all r.0,
      within-all vs H fields es c.loop-entry.found are (subst (λ l. IsWithin vs H fields l c.loop-entry.found) all r.1),
    )
