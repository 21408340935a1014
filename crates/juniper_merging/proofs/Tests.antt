-- Tests of each element of a list.
use Rattle.std.specs.Prelude.{Bool, true, false, ◌&&◌, List, [], ◌∷◌, ◌≡◌, ◌⊎◌}
use Rattle.std.specs.List.{list_all}
use Rattle.std.proofs.lemmas.Bool.{and_parts, cases_Bool}
use Rattle.std.proofs.Common.{refl, sym, ◌∙◌, inl, inr, subst}
use Rattle.graphql_spec.specs.Laws.{In}

pub all-from : {A : Type 0} (test : A → Bool) (xs : List A) → ((x : A) → In x xs → test x ≡ true) → list_all test xs ≡ true
all-from test [] f = refl
all-from test (x ∷ xs) f = let h : test x ≡ true = f x (inl refl) in rw h (all-from test xs (λ y i. f y (inr i)))

pub not-all : {A : Type 0} (test : A → Bool) (xs : List A) (x : A) → In x xs → test x ≡ false → list_all test xs ≡ false
not-all test [] x i e = absurd i
not-all test (y ∷ ys) x (inl q) e = let h : test y ≡ false = subst (λ z. test z ≡ false) q e in rw h refl
not-all test (y ∷ ys) x (inr i) e = let h = not-all test ys x i e in elim (cases_Bool (test y)) [ inl p ↦ rw p h | inr p ↦ rw p refl ]

pub all-at : {A : Type 0} (test : A → Bool) (xs : List A) (x : A) → list_all test xs ≡ true → In x xs → test x ≡ true
all-at test [] x e i = absurd i
all-at test (y ∷ ys) x e (inl q) = subst (λ z. test z ≡ true) (sym q) (and_parts (test y) (list_all test ys) e).0
all-at test (y ∷ ys) x e (inr i) = all-at test ys x (and_parts (test y) (list_all test ys) e).1 i

and-second : (a b : Bool) → a ≡ true → (a && b) ≡ false → b ≡ false
and-second true b p e = e
and-second false b p e = cc

-- of a list that fails one element does
pub one-fails : {A : Type 0} (test : A → Bool) (xs : List A) → list_all test xs ≡ false → (x : A) × In x xs × (test x ≡ false)
one-fails test [] e = cc
one-fails test (x ∷ xs) e = elim (cases_Bool (test x)) [
  | inl p ↦ (let r = one-fails test xs (and-second (test x) (list_all test xs) p e) in (r.0, inr r.1, r.2))
  | inr p ↦ (x, inl refl, p)
]

-- two lists fail alike, where the one has what of the other does not pass
pub all-same : {A : Type 0} (test : A → Bool) (xs ys : List A) → ((x : A) → In x xs → In x ys) → ((y : A) → In y ys → In y xs ⊎ (test y ≡ true)) →
    list_all test ys ≡ list_all test xs
all-same test xs ys down up = elim (cases_Bool (list_all test xs)) [
  | inl p ↦ all-from test ys (λ y i. elim (up y i) [ inl j ↦ all-at test xs y p j | inr q ↦ q ]) ∙ sym p
  | inr p ↦ (let r = one-fails test xs p in not-all test ys r.0 (down r.0 r.1) r.2 ∙ sym p)
]
