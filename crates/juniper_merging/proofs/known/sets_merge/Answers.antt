use Rattle.std.proofs.Common.{◌≡◌, ◌∙◌, ◌∷◌, [], sym, subst, Some, get_or, inl, inr, true, false}
use Rattle.std.specs.List.{slice_get}
use Rattle.std.specs.Prelude.{take}
use Rattle.std.proofs.lemmas.Grind.{get_or_default_zero}
use Rattle.std.proofs.lemmas.List.{take_all}
use Rattle.graphql_spec.specs.Laws.{In}
use Rattle.graphql_spec.proofs.Grouping.{in_append}
use Rattle.juniper_merging.proofs.Listing.{in-got}
use Rattle.juniper_merging.proofs.Passed.{one-more}
use Rattle.juniper_merging.proofs.known.sets_merge.Goals.{then-merge, else-merge}
use Rattle.juniper_merging.proofs.known.sets_merge.Goals as goal

pub returns-then-judged-clause-differs : goal.returns-then-judged-clause-differs
returns-then-judged-clause-differs c there sound e =
    let sets = c.args.sets.now in
    let i = c.loop-set.set-index in
    let x = get_or sets i 0 in (
      x,
      in-got sets i x c.loop-set-test.true (sym (get_or_default_zero sets i x c.loop-set-test.true)),
      (sound x c.in_ok-judged.judged c.in_ok-judged.ensures).differs c.if-judged.true,
    )

never : {A : Type 0} → true ≡ false → A
never e = cc

pub loop-set-preserved : goal.loop-set-preserved
loop-set-preserved c merge set m =
    let sets = c.args.sets.now in
    let i = c.loop-set.set-index in
    let x = get_or sets i 0 in
    let more = one-more sets i x c.loop-set-test.true (sym (get_or_default_zero sets i x c.loop-set-test.true)) in
    let both : (c.loop-set.merge ≡ true) × (c.in_ok-judged.judged.merges ≡ true) = elim c.if-merge.branch [
      | then-merge w ↦ (w.if-merge.true, sym w.merge-is ∙ merge)
      | else-merge w ↦ never (sym merge ∙ (w.merge-is ∙ w.if-merge.false))
    ] in
    elim (in_append set (take i sets) (x ∷ []) (subst (In set) more m)) [
      | inl before ↦ c.loop-set.invariant both.0 set before
      | inr (inl q) ↦ (
        c.in_ok-judged.judged,
        subst (λ n. slice_get c.args.known.now.judged.items n ≡ Some c.in_ok-judged.judged) (sym q) c.in_ok-judged.ensures,
        both.1,
      )
      | inr (inr r) ↦ absurd r
    ]

pub returns-then-merge-2-clause-merges : goal.returns-then-merge-2-clause-merges
returns-then-merge-2-clause-merges c there sound e set m =
    let all = take_all c.loop-set.set-index c.args.sets.now c.loop-set-test.false in
    let r = c.loop-set.invariant c.if-merge-2.true set (subst (In set) (sym all) m) in
    (sound set r.0 r.1).merges r.2
