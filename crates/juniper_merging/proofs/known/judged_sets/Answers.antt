use Rattle.std.proofs.Common.{◌≡◌, ◌∙◌, ◌∷◌, [], ap, sym, subst, Some, inl, inr, length, ◌+◌}
use Rattle.std.specs.List.{slice_get}
use Rattle.std.proofs.lemmas.List.{length-append}
use Rattle.juniper_merging.specs.Questions.{IsJudgedSet}
use Rattle.juniper_merging.specs.Tables.{set_at}
use Rattle.juniper_merging.proofs.Tables.{one-of}
use Rattle.juniper_merging.proofs.known.judged_sets.Goals as goal

pub loop-set-preserved : goal.loop-set-preserved
loop-set-preserved c =
    let before = c.loop-set.judged.items in
    let new = c.in_ok-judged_set.field-0 in (
      ap length c.in_ok-push.ensures.items ∙ (length-append before (new ∷ []) ∙ ap (λ n. n + 1) c.loop-set.invariant.0),
      λ vs t H is told set j at. elim (one-of before new j set (subst (λ l. slice_get l set ≡ Some j) c.in_ok-push.ensures.items at)) [
        | inl q ↦ c.loop-set.invariant.1 vs t H is told set j q
        | inr q ↦ subst (λ n. IsJudgedSet vs (set_at t n) j) (sym (q.0 ∙ c.loop-set.invariant.0))
            (subst (IsJudgedSet vs (set_at t c.loop-set.set)) q.1 (c.in_ok-judged_set.ensures vs t H is told))
      ],
    )
