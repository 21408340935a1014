-- How much a walk through spreads has still to do.
use Rattle.std.specs.Prelude.{ℕ, zero, suc, Bool, true, false, cond, List, [], ◌∷◌, length, Option, Some, None, option_map, ◌≡◌, ◌≤◌, ◌+◌, Vec}
use Rattle.std.specs.Borrow.{Bor}
use Rattle.std.specs.Map.{lookup}
use Rattle.std.specs.Str.{bytes_eq}
use Rattle.std.specs.declared.alloc.Global.{Global}
use Rattle.std.proofs.lemmas.Bool.{cases_Bool}
use Rattle.std.proofs.lemmas.List.{length-map}
use Rattle.std.proofs.Common.{ap, ◌∙◌, inl, inr, subst, arith}
use Rattle.graphql_spec.specs.Shown.{Name}
use Rattle.juniper_written.specs.WrittenView.{entries_of, named, view_names}
use Rattle.juniper_written.specs.declared.name_map.NameMap.{NameMap}
use Rattle.juniper_written.specs.SpreadsView.{spread_by, names_or_none, step_count}
use Rattle.juniper_written.proofs.FragmentNames.{same}

abbrev pub Entry : Type 0
Entry = Bor (List ℕ) × Vec (Bor (List ℕ)) Global

-- one step for each spread of a fragment that was not seen, and one for the fragment
abbrev pub weight : (Name → Bool) → List Entry → ℕ
weight seen [] = zero
weight seen (e ∷ es) = cond (seen e.0.now) zero (suc (length e.1.items)) + weight seen es

module _ (seen now : Name → Bool) (x : Name) (is : (n : Name) → now n ≡ cond (bytes_eq x n) true (seen n)) where
  one-less : (s : ℕ) (b c d : Bool) → d ≡ cond b true c → cond d zero s ≤ cond c zero s
  one-less s true c d e = rw e (omega arith)
  one-less s false c d e = rw e (omega arith)

  pub less : (es : List Entry) → weight now es ≤ weight seen es
  less [] = omega arith
  less (e ∷ es) =
      let h = one-less (suc (length e.1.items)) (bytes_eq x e.0.now) (seen e.0.now) (now e.0.now) (is e.0.now) in let t = less es in omega (arith, h, t)

  falls-at : seen x ≡ false → (es : List Entry) → weight now es + step_count (option_map (λ v. view_names v.items) (lookup (λ k. bytes_eq x k.now) es))
      ≤ weight seen es
  unfolding step_count
  falls-at new [] = omega arith
  falls-at new (e ∷ es) = elim (cases_Bool (bytes_eq x e.0.now)) [
    | inl q ↦
        let t = less es in
        let n = length-map e.1.items (λ k. k.now) in
        let now-is : now e.0.now ≡ true = is e.0.now ∙ ap (λ b. cond b true (seen e.0.now)) q in
        let seen-is : seen e.0.now ≡ false = subst (λ k. seen k ≡ false) (same x e.0.now q) new in
        rw q (rw now-is (rw seen-is (omega (arith, t, n))))
    | inr q ↦
        let t = falls-at new es in
        let now-is : now e.0.now ≡ seen e.0.now = is e.0.now ∙ ap (λ b. cond b true (seen e.0.now)) q in
        rw q (rw now-is (omega (arith, t)))
  ]

  -- a fragment that is seen takes its steps away
  pub falls : (m : NameMap (Vec (Bor (List ℕ)) Global)) → seen x ≡ false →
      weight now (entries_of m) + step_count (spread_by m x) ≤ weight seen (entries_of m)
  unfolding spread_by named
  falls m new = falls-at new (entries_of m)

pub fewer : (o : Option (List Name)) → length (names_or_none o) ≤ step_count o
unfolding names_or_none step_count
fewer None = omega arith
fewer (Some ks) = omega arith
