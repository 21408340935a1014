-- Items that were converted make an array, or have another count.
use Rattle.std.proofs.Common.{◌≡◌, ◌≢◌, ℕ, List, [], ◌∷◌, Result, Ok, Err, MatchResult, length, refl, sym, subst, ◌∙◌}
use Rattle.std.proofs.lemmas.Slice.Zip.{AllZip-long}
use Rattle.graphql_spec.specs.Constants.{Constant}
use Rattle.juniper_conversions.specs.ListConversions.{EachGives, GivesCounted, GivesSingle}
use Rattle.juniper_conversions.specs.declared.conversion_errors.FromInputValueArrayError.{FromInputValueArrayError}
use Rattle.juniper_conversions.specs.declared.conversion_errors.FromInputValueArrayError.TheVariants.{WrongCount}

module _ {S A E : Type 0} (n : ℕ) (inner : Constant → Result A E → Type 0) where
  -- what is made of the items
  abbrev pub IsArrayOf : List A → Result (List A) (FromInputValueArrayError A S E) → Type 0
  IsArrayOf xs made = MatchResult made (λ ys. (ys ≡ xs) × (length xs ≡ n)) (λ e. (e ≡ WrongCount (length xs) n) × (length xs ≢ n))

  pub counted : (vs : List Constant) (xs : List A) → EachGives inner vs xs → length vs ≡ n
      → (made : Result (List A) (FromInputValueArrayError A S E)) → IsArrayOf xs made → GivesCounted n inner vs made
  counted vs xs each count (Ok ys) h = (count, subst (λ (zs : List A). EachGives inner vs zs) (sym h.0) each)
  counted vs xs each count (Err e) h = absurd (h.1 (AllZip-long (λ v x. inner v (Ok x)) vs xs each ∙ count))

  pub single : (v : Constant) (xs : List A) → EachGives inner (v ∷ []) xs
      → (made : Result (List A) (FromInputValueArrayError A S E)) → IsArrayOf xs made → GivesSingle n inner v made
  single v [] each made h = elim each [ ]
  single v (x ∷ y ∷ xs) each made h = elim each.1 [ ]
  single v (x ∷ []) each (Ok ys) h = (h.1, subst (λ (zs : List A). EachGives inner (v ∷ []) zs) (sym h.0) each)
  single v (x ∷ []) each (Err e) h =
      subst (λ (f : FromInputValueArrayError A S E). GivesSingle n inner v (Err f)) (sym h.0) (h.1, refl, refl, (x, each.0))
