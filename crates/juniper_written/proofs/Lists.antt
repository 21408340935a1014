-- Lists of references that grow.
use Rattle.std.proofs.Common.{◌≡◌, ℕ, ◌+◌, ◌<◌, ◌≤◌, List, [], ◌∷◌, ◌++◌, length, get_or, drop, map, refl, sym, ap, ◌∙◌}
use Rattle.std.specs.List.{flat_map}
use Rattle.std.proofs.lemmas.List.{append_assoc, append-nil, drop_all}
use Rattle.juniper_syntax.proofs.Lists.{left-is}

module _ {A B : Type 0} (f : A → List B) (xs : List A) (old : List B) where
  -- what was added, with what is left, is the whole
  abbrev pub IsFlatSoFar : ℕ → List B → Type 0
  IsFlatSoFar i ys = ys ++ flat_map f (drop i xs) ≡ old ++ flat_map f xs

  pub flat-next : (i : ℕ) (x : A) (ys made : List B) → i < length xs → x ≡ get_or xs i x → IsFlatSoFar i ys → made ≡ ys ++ f x → IsFlatSoFar (i + 1) made
  flat-next i x ys made below is so_far e =
      ap (λ l. l ++ flat_map f (drop (i + 1) xs)) e ∙ (append_assoc ys (f x) (flat_map f (drop (i + 1) xs))
      ∙ (ap (λ l. ys ++ flat_map f l) (sym (left-is xs i x below is)) ∙ so_far))

  pub flat-all : (i : ℕ) (ys : List B) → length xs ≤ i → IsFlatSoFar i ys → ys ≡ old ++ flat_map f xs
  flat-all i ys past so_far =
      let none : ys ++ flat_map f (drop i xs) ≡ ys = rw (drop_all i xs past) (append-nil ys) in
      sym none ∙ so_far

-- what is found at the views is what is found at the items
pub flat-seen : {A B C : Type 0} (view : A → B) (f : B → List C) (xs : List A) → flat_map (λ x. f (view x)) xs ≡ flat_map f (map view xs)
flat-seen view f [] = refl
flat-seen view f (x ∷ xs) = ap (λ l. f (view x) ++ l) (flat-seen view f xs)

module _ {A C : Type 0} (view : A → C) (xs : List A) (old : List C) where
  -- what was added, with what is left, is the whole
  abbrev pub IsSeenSoFar : ℕ → List C → Type 0
  IsSeenSoFar i ys = ys ++ map view (drop i xs) ≡ old ++ map view xs

  pub seen-next : (i : ℕ) (x : A) (ys made : List C) → i < length xs → x ≡ get_or xs i x → IsSeenSoFar i ys → made ≡ ys ++ view x ∷ [] →
      IsSeenSoFar (i + 1) made
  seen-next i x ys made below is so_far e =
      ap (λ l. l ++ map view (drop (i + 1) xs)) e ∙ (append_assoc ys (view x ∷ []) (map view (drop (i + 1) xs))
      ∙ (ap (λ l. ys ++ map view l) (sym (left-is xs i x below is)) ∙ so_far))

  pub seen-all : (i : ℕ) (ys : List C) → length xs ≤ i → IsSeenSoFar i ys → ys ≡ old ++ map view xs
  seen-all i ys past so_far =
      let none : ys ++ map view (drop i xs) ≡ ys = rw (drop_all i xs past) (append-nil ys) in
      sym none ∙ so_far

-- what is found at the views, one for each item
pub seen-twice : {A B C : Type 0} (view : A → B) (f : B → C) (xs : List A) → map (λ x. f (view x)) xs ≡ map f (map view xs)
seen-twice view f [] = refl
seen-twice view f (x ∷ xs) = ap (λ l. f (view x) ∷ l) (seen-twice view f xs)
