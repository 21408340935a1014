-- Each two of a list, by the places where things stand: order and further repetition make no difference.
use Rattle.std.specs.Prelude.{Bool, true, false, List, [], ◌∷◌, ◌++◌, ◌≡◌, ◌⊎◌}
use Rattle.std.specs.List.{list_all}
use Rattle.std.proofs.lemmas.Bool.{and_parts, and_from}
use Rattle.std.proofs.Common.{refl, sym, ap, ◌∙◌, inl, inr}
use Rattle.graphql_spec.specs.Merging.{each_two}
use Rattle.graphql_spec.specs.Laws.{In}
use Rattle.graphql_spec.proofs.Grouping.{in_append, in_first, in_second}
use Rattle.juniper_merging.specs.Standing.{Both, AreAlike}
use Rattle.juniper_merging.proofs.Tests.{all-from}

pub same-truth : (a b : Bool) → (a ≡ true → b ≡ true) → (b ≡ true → a ≡ true) → a ≡ b
same-truth true b f g = sym (f refl)
same-truth false true f g = g refl
same-truth false false f g = refl

module _ {A : Type 0} where
  all-in : (test : A → Bool) (xs : List A) (x : A) → list_all test xs ≡ true → In x xs → test x ≡ true
  all-in test [] x e i = absurd i
  all-in test (z ∷ xs) x e (inl q) = ap test q ∙ (and_parts (test z) (list_all test xs) e).0
  all-in test (z ∷ xs) x e (inr i) = all-in test xs x (and_parts (test z) (list_all test xs) e).1 i

  pub two-true : (R : A → A → Bool) → ((x y : A) → R x y ≡ R y x) → (xs : List A) → each_two R xs ≡ true → (x y : A) → Both x y xs → R x y ≡ true
  unfolding each_two
  two-true R turn [] e x y b = absurd b
  two-true R turn (z ∷ zs) e x y (inl (q, i)) = ap (λ w. R w y) q ∙ all-in (R z) zs y (and_parts (list_all (R z) zs) (each_two R zs) e).0 i
  two-true R turn (z ∷ zs) e x y (inr (inl (q, i))) = turn x y ∙ (ap (λ w. R w x) q ∙ all-in (R z) zs x (and_parts (list_all (R z) zs) (each_two R zs) e).0 i)
  two-true R turn (z ∷ zs) e x y (inr (inr b)) = two-true R turn zs (and_parts (list_all (R z) zs) (each_two R zs) e).1 x y b

  pub two-from : (R : A → A → Bool) (xs : List A) → ((x y : A) → Both x y xs → R x y ≡ true) → each_two R xs ≡ true
  unfolding each_two
  two-from R [] f = refl
  two-from R (z ∷ zs) f =
      and_from (list_all (R z) zs) (each_two R zs) (all-from (R z) zs (λ y i. f z y (inl (refl, i)))) (two-from R zs (λ x y b. f x y (inr (inr b))))

  pub both-first : (x y : A) (xs ys : List A) → Both x y xs → Both x y (xs ++ ys)
  both-first x y [] ys b = absurd b
  both-first x y (z ∷ xs) ys (inl (q, i)) = inl (q, in_first y xs ys i)
  both-first x y (z ∷ xs) ys (inr (inl (q, i))) = inr (inl (q, in_first x xs ys i))
  both-first x y (z ∷ xs) ys (inr (inr b)) = inr (inr (both-first x y xs ys b))

  pub both-second : (x y : A) (xs ys : List A) → Both x y ys → Both x y (xs ++ ys)
  both-second x y [] ys b = b
  both-second x y (z ∷ xs) ys b = inr (inr (both-second x y xs ys b))

  pub both-across : (x y : A) (xs ys : List A) → In x xs → In y ys → Both x y (xs ++ ys)
  both-across x y [] ys i j = absurd i
  both-across x y (z ∷ xs) ys (inl q) j = inl (q, in_second y xs ys j)
  both-across x y (z ∷ xs) ys (inr i) j = inr (inr (both-across x y xs ys i j))

  pub both-turned : (x y : A) (xs : List A) → Both x y xs → Both y x xs
  both-turned x y [] b = absurd b
  both-turned x y (z ∷ xs) (inl b) = inr (inl b)
  both-turned x y (z ∷ xs) (inr (inl b)) = inl b
  both-turned x y (z ∷ xs) (inr (inr b)) = inr (inr (both-turned x y xs b))

  pub both-parts : (x y : A) (xs ys : List A) → Both x y (xs ++ ys) → Both x y xs ⊎ (Both x y ys ⊎ ((In x xs × In y ys) ⊎ (In y xs × In x ys)))
  both-parts x y [] ys b = inr (inl b)
  both-parts x y (z ∷ xs) ys (inl (q, i)) = elim (in_append y xs ys i) [ inl j ↦ inl (inl (q, j)) | inr j ↦ inr (inr (inl (inl q, j))) ]
  both-parts x y (z ∷ xs) ys (inr (inl (q, i))) = elim (in_append x xs ys i) [ inl j ↦ inl (inr (inl (q, j))) | inr j ↦ inr (inr (inr (inl q, j))) ]
  both-parts x y (z ∷ xs) ys (inr (inr b)) = elim (both-parts x y xs ys b) [
    | inl c ↦ inl (inr (inr c))
    | inr (inl c) ↦ inr (inl c)
    | inr (inr (inl (i, j))) ↦ inr (inr (inl (inr i, j)))
    | inr (inr (inr (i, j))) ↦ inr (inr (inr (inr i, j)))
  ]

  -- the order of two lists makes no difference
  pub two-swapped : (R : A → A → Bool) → ((x y : A) → R x y ≡ R y x) → (xs ys : List A) → each_two R (xs ++ ys) ≡ each_two R (ys ++ xs)
  two-swapped R turn xs ys = same-truth (each_two R (xs ++ ys)) (each_two R (ys ++ xs)) (swap xs ys) (swap ys xs)
    where
      moved : (x y : A) (xs ys : List A) → Both x y (ys ++ xs) → Both x y (xs ++ ys)
      moved x y xs ys b = elim (both-parts x y ys xs b) [
        | inl c ↦ both-second x y xs ys c
        | inr (inl c) ↦ both-first x y xs ys c
        | inr (inr (inl (i, j))) ↦ both-turned y x (xs ++ ys) (both-across y x xs ys j i)
        | inr (inr (inr (i, j))) ↦ both-across x y xs ys j i
      ]

      swap : (xs ys : List A) → each_two R (xs ++ ys) ≡ true → each_two R (ys ++ xs) ≡ true
      swap xs ys e = two-from R (ys ++ xs) (λ x y b. two-true R turn (xs ++ ys) e x y (moved x y xs ys b))

module _ {A B : Type 0} (S : A → B → Type 0) where
  -- lists that are alike pass the same tests
  pub alike-two : (R : A → A → Bool) (Q : B → B → Bool) → ((x y : A) → R x y ≡ R y x) → ((i j : B) → Q i j ≡ Q j i) →
      ((x y : A) (i j : B) → S x i → S y j → R x y ≡ Q i j) →
      (xs : List A) (is : List B) → AreAlike S xs is → each_two R xs ≡ each_two Q is
  alike-two R Q turn turn' same xs is a = same-truth (each_two R xs) (each_two Q is)
      (λ e. two-from Q is (λ i j b. let r = a.two_back i j b in sym (same r.0 r.1 i j r.2 r.3) ∙ two-true R turn xs e r.0 r.1 r.4))
      (λ e. two-from R xs (λ x y b. let r = a.two x y b in same x y r.0 r.1 r.2 r.3 ∙ two-true Q turn' is e r.0 r.1 r.4))

  pub alike-both : (xs ys : List A) (is js : List B) → AreAlike S xs is → AreAlike S ys js → AreAlike S (xs ++ ys) (is ++ js)
  alike-both xs ys is js a b = record {
    one = λ x i. elim (in_append x xs ys i) [
      | inl k ↦ let r = a.one x k in (r.0, r.1, in_first r.0 is js r.2)
      | inr k ↦ let r = b.one x k in (r.0, r.1, in_second r.0 is js r.2)
    ];
    one_back = λ n i. elim (in_append n is js i) [
      | inl k ↦ let r = a.one_back n k in (r.0, r.1, in_first r.0 xs ys r.2)
      | inr k ↦ let r = b.one_back n k in (r.0, r.1, in_second r.0 xs ys r.2)
    ];
    two = λ x y c. elim (both-parts x y xs ys c) [
      | inl k ↦ let r = a.two x y k in (r.0, r.1, r.2, r.3, both-first r.0 r.1 is js r.4)
      | inr (inl k) ↦ let r = b.two x y k in (r.0, r.1, r.2, r.3, both-second r.0 r.1 is js r.4)
      | inr (inr (inl (k, l))) ↦ let r = a.one x k in let t = b.one y l in (r.0, t.0, r.1, t.1, both-across r.0 t.0 is js r.2 t.2)
      | inr (inr (inr (k, l))) ↦ let r = a.one y k in let t = b.one x l in
          (t.0, r.0, t.1, r.1, both-turned r.0 t.0 (is ++ js) (both-across r.0 t.0 is js r.2 t.2))
    ];
    two_back = λ m n c. elim (both-parts m n is js c) [
      | inl k ↦ let r = a.two_back m n k in (r.0, r.1, r.2, r.3, both-first r.0 r.1 xs ys r.4)
      | inr (inl k) ↦ let r = b.two_back m n k in (r.0, r.1, r.2, r.3, both-second r.0 r.1 xs ys r.4)
      | inr (inr (inl (k, l))) ↦ let r = a.one_back m k in let t = b.one_back n l in (r.0, t.0, r.1, t.1, both-across r.0 t.0 xs ys r.2 t.2)
      | inr (inr (inr (k, l))) ↦ let r = a.one_back n k in let t = b.one_back m l in
          (t.0, r.0, t.1, r.1, both-turned r.0 t.0 (xs ++ ys) (both-across r.0 t.0 xs ys r.2 t.2))
    ];
  }
