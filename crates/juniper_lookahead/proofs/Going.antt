-- A step of an iterator, as it is seen.
use Rattle.std.proofs.Common.{◌≡◌, List, [], ◌∷◌, ◌++◌, map, length, Option, Some, None, MatchOption, Bor, refl, ap, sym, ◌∙◌, arith}
use Rattle.std.specs.Slice.Iter.{iter_rest, iter_steps, iter_steps_back}
use Rattle.std.specs.Vec.Iter.{into_iter_items, into_iter_steps_back}
use Rattle.std.specs.declared.slice.Iter.{Iter}
use Rattle.std.specs.declared.vec.IntoIter.{IntoIter}
use Rattle.juniper_syntax.proofs.Lists.{seen-push}

module _ {A B : Type 0} (view : A → B) where
  none-seen : (xs : List A) → length xs ≡ 0 → map view xs ≡ []
  none-seen [] e = refl
  none-seen (x ∷ xs) e = absurd (omega (arith, e))

  pub first-step : (s : Iter A) (r : Option (Bor A)) (t : Iter A) → iter_steps s r t →
      MatchOption r ((map view (iter_rest s) ≡ []) × (map view (iter_rest t) ≡ [])) (λ x. map view (iter_rest s) ≡ view x.now ∷ map view (iter_rest t))
  first-step s None t h = (none-seen (iter_rest s) h.0, none-seen (iter_rest t) (ap (λ (i : Iter A). length (iter_rest i)) h.1 ∙ h.0))
  first-step s (Some x) t h = ap (map view) h

  pub last-step : (s : Iter A) (r : Option (Bor A)) (t : Iter A) → iter_steps_back s r t →
      MatchOption r ((map view (iter_rest s) ≡ []) × (map view (iter_rest t) ≡ [])) (λ x. map view (iter_rest s) ≡ map view (iter_rest t) ++ view x.now ∷ [])
  last-step s None t h = (none-seen (iter_rest s) h.0, none-seen (iter_rest t) (ap (λ (i : Iter A). length (iter_rest i)) h.1 ∙ h.0))
  last-step s (Some x) t h = seen-push view (iter_rest t) (iter_rest s) x.now h

  pub last-handed : {Z : Type 0} (s : IntoIter A Z) (r : Option A) (t : IntoIter A Z) → into_iter_steps_back s r t →
      MatchOption r ((map view (into_iter_items s) ≡ []) × (map view (into_iter_items t) ≡ []))
      (λ x. map view (into_iter_items s) ≡ map view (into_iter_items t) ++ view x ∷ [])
  last-handed s None t h = (none-seen (into_iter_items s) (sym s.rest.ok.0 ∙ h.0), none-seen (into_iter_items t) (sym t.rest.ok.0 ∙ h.1))
  last-handed s (Some x) t h = seen-push view (into_iter_items t) (into_iter_items s) x h
