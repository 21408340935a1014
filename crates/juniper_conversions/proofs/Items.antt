-- What is known of the items that were converted, and of the first that was not.
use Rattle.std.proofs.Common.{◌≡◌, ℕ, ◌<◌, ◌+◌, List, [], ◌∷◌, ◌++◌, Result, Ok, Err, take, drop, length, map, get_or, subst, ap, ap₂, sym, ◌∙◌, inl, inr, suc}
use Rattle.std.proofs.lemmas.List.{take_more, map-append}
use Rattle.std.proofs.Math.Seq.{split_at}
use Rattle.std.proofs.lemmas.Slice.Zip.{all_zipped_more}
use Rattle.graphql_spec.specs.Constants.{Constant}
use Rattle.juniper_conversions.specs.ListConversions.{EachGives, FirstFails}

-- good items, then a bad one: it decides
pub FirstFails-after : {A E : Type 0} (inner : Constant → Result A E → Type 0) (before : List Constant) (xs : List A) (v : Constant) (after : List Constant)
    (e : E)
    → EachGives inner before xs → inner v (Err e) → FirstFails inner (before ++ v ∷ after) e
FirstFails-after inner [] xs v after e each bad = inl bad
FirstFails-after inner (b ∷ before) (x ∷ xs) v after e each bad =
    inr (x, each.0, FirstFails-after inner before xs v after e each.1 bad)
FirstFails-after inner (b ∷ before) [] v after e each bad = elim each [ ]

module _ {B A E : Type 0} (inner : Constant → Result A E → Type 0) (f : B → Constant) (items : List B) (i : ℕ) (b : B) (is : b ≡ get_or items i b)
    (within : i < length items) (xs : List A) (each : EachGives inner (map f (take i items)) xs) where
  pub each_next : (x : A) → inner (f b) (Ok x) → EachGives inner (map f (take (i + 1) items)) (xs ++ x ∷ [])
  each_next x good =
      let e : take (i + 1) items ≡ take i items ++ b ∷ [] = take_more items i b within ∙ ap (λ c. take i items ++ c ∷ []) (sym is) in
      rw (e, map-append) (all_zipped_more (λ v y. inner v (Ok y)) (map f (take i items)) xs (f b) x each good)

  pub first_fails_at : (e : E) → inner (f b) (Err e) → FirstFails inner (map f items) e
  first_fails_at e bad =
      let s : items ≡ take i items ++ b ∷ drop (suc i) items = split_at items i b within ∙ ap (λ c. take i items ++ c ∷ drop (suc i) items) (sym is) in
      subst (λ (ys : List B). FirstFails inner (map f ys) e) (sym s)
      (rw map-append (FirstFails-after inner (map f (take i items)) xs (f b) (map f (drop (suc i) items)) e each bad))

-- one more item is written
pub written_next : {A B : Type 0} (f : B → Constant) (input : A → Constant) (xs : List B) (values : List A) (i : ℕ) (a : A) → a ≡ get_or values i a →
    i < length values
    → map f xs ≡ map input (take i values) → (b : B) → f b ≡ input a → map f (xs ++ b ∷ []) ≡ map input (take (i + 1) values)
written_next f input xs values i a is within so_far b same =
    let e : take (i + 1) values ≡ take i values ++ a ∷ [] = take_more values i a within ∙ ap (λ c. take i values ++ c ∷ []) (sym is) in
    map-append f xs (b ∷ []) ∙ (ap₂ (λ us v. us ++ v ∷ []) so_far same ∙ (sym (map-append input (take i values) (a ∷ [])) ∙ ap (map input) (sym e)))
