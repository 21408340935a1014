-- Lists in which what stands before is left out.
use Rattle.std.proofs.Common.{◌≡◌, ◌<◌, zero, suc, Bool, true, false, not, cond, ◌||◌, ◌++◌, ℕ, length, map, List, [], ◌∷◌, get_or}
use Rattle.std.proofs.Common.{refl, sym, ap, subst, ◌∙◌, inl, inr, arith}
use Rattle.std.specs.Str.{bytes_eq}
use Rattle.graphql_spec.proofs.Grouping.{in_first, in_second}
use Rattle.graphql_spec.proofs.Lists.{same_or}
use Rattle.graphql_spec.specs.Shown.{Name}
use Rattle.std.specs.List.{list_any}
use Rattle.std.proofs.lemmas.Bool.{cases_Bool}
use Rattle.std.proofs.lemmas.List.Folds.{list_any-append}
use Rattle.graphql_spec.specs.Laws.{In}

-- a list without length has no items
pub none-left : {A : Type 0} (xs : List A) (n : ℕ) → n ≡ length xs → n ≡ 0 → xs ≡ []
none-left [] n e z = refl
none-left (a ∷ xs) n e z = absurd (omega arith)

or-none : (b : Bool) → (b || false) ≡ b
or-none true = refl
or-none false = refl

or-later : (a b c : Bool) → ((a || (b || false)) || c) ≡ (a || (b || c))
or-later true b c = refl
or-later false true c = refl
or-later false false c = refl

or-known : (a b c : Bool) → (b ≡ true → a ≡ true) → (a || c) ≡ (a || (b || c))
or-known true b c known = refl
or-known false true c known = absurd (let e : false ≡ true = known refl in cc)
or-known false false c known = refl

module _ {A : Type 0} where
  -- a test that an item passes is passed in the list
  passed : (test : A → Bool) (x : A) (xs : List A) → In x xs → test x ≡ true → list_any test xs ≡ true
  passed test x [] none is = elim none [ ]
  passed test x (y ∷ ys) (inl e) is = ap (λ b. b || list_any test ys) (sym (ap test e) ∙ is)
  passed test x (y ∷ ys) (inr i) is = elim (cases_Bool (test y)) [
    | inl q ↦ ap (λ b. b || list_any test ys) q
    | inr q ↦ ap (λ b. b || list_any test ys) q ∙ passed test x ys i is
  ]

  -- what is kept, and what is left, pass the tests that all pass
  abbrev pub PassAlike : List A → List A → List A → Type 0
  PassAlike kept left all = (test : A → Bool) → (list_any test kept || list_any test left) ≡ list_any test all

  pub alike-kept : (kept new left rest all : List A) (x : A) → PassAlike kept left all → left ≡ x ∷ rest → new ≡ kept ++ x ∷ [] → PassAlike new rest all
  alike-kept kept new left rest all x alike e push = λ test.
      ap (λ l. list_any test l || list_any test rest) push
      ∙ (ap (λ b. b || list_any test rest) (list_any-append test kept (x ∷ []))
      ∙ (or-later (list_any test kept) (test x) (list_any test rest)
      ∙ (ap (λ l. list_any test kept || list_any test l) (sym e) ∙ alike test)))

  pub alike-left-out : (kept left rest all : List A) (x : A) → PassAlike kept left all → left ≡ x ∷ rest → In x kept → PassAlike kept rest all
  alike-left-out kept left rest all x alike e known = λ test.
      or-known (list_any test kept) (test x) (list_any test rest) (passed test x kept known)
      ∙ (ap (λ l. list_any test kept || list_any test l) (sym e) ∙ alike test)

  pub alike-all : (kept left all : List A) → PassAlike kept left all → left ≡ [] → (test : A → Bool) → list_any test kept ≡ list_any test all
  alike-all kept left all alike e = λ test.
      sym (ap (λ l. list_any test kept || list_any test l) e ∙ or-none (list_any test kept)) ∙ alike test

-- what is seen of a list that grows
module _ {A B : Type 0} (view : A → B) where
  seen-behind : (xs : List A) (x : A) → map view (xs ++ x ∷ []) ≡ map view xs ++ view x ∷ []
  seen-behind [] x = refl
  seen-behind (y ∷ ys) x = ap (λ l. view y ∷ l) (seen-behind ys x)

  pub seen-push : (xs new : List A) (x : A) → new ≡ xs ++ x ∷ [] → map view new ≡ map view xs ++ view x ∷ []
  seen-push xs new x e = ap (map view) e ∙ seen-behind xs x

  -- the item at a place is among those that are seen
  pub in-seen : (xs : List A) (i : ℕ) (x : A) → i < length xs → x ≡ get_or xs i x → In (view x) (map view xs)
  in-seen [] i x below is = absurd (omega arith)
  in-seen (y ∷ ys) zero x below is = inl (ap view is)
  in-seen (y ∷ ys) (suc i) x below is = inr (in-seen ys i x (omega (arith, below)) is)

-- names that were seen are kept, with one more
module _ (old new : Name → Bool) (name : Name) (kept : List Name) (added : (n : Name) → new n ≡ cond (bytes_eq name n) true (old n))
    (are : (n : Name) → old n ≡ true → In n kept) where
  pub seen-kept : (n : Name) → new n ≡ true → In n (kept ++ name ∷ [])
  seen-kept n e = elim (same_or name n) [
    | inl q ↦ subst (λ k. In k (kept ++ name ∷ [])) q.1 (in_second name kept (name ∷ []) (inl refl))
    | inr q ↦ in_first n kept (name ∷ []) (are n (sym (added n ∙ ap (λ b. cond b true (old n)) q) ∙ e))
  ]

  pub seen-before : old name ≡ true → (n : Name) → new n ≡ true → In n kept
  seen-before known n e = elim (same_or name n) [
    | inl q ↦ are n (ap old (sym q.1) ∙ known)
    | inr q ↦ are n (sym (added n ∙ ap (λ b. cond b true (old n)) q) ∙ e)
  ]

-- where it is not new, it was there
pub not-new : (b found : Bool) → found ≡ not b → found ≡ false → b ≡ true
not-new true found e f = refl
not-new false found e f = absurd (let w : true ≡ false = sym e ∙ f in cc)
