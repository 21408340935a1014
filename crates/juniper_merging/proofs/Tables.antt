-- Tables of sets.
use Rattle.std.specs.Prelude.{ℕ, zero, suc, List, [], ◌∷◌, ◌++◌, ◌≡◌, ◌⊎◌, ◌<◌, ◌+◌, Option, Some, None, length, get_or}
use Rattle.std.specs.List.{slice_get}
use Rattle.std.proofs.lemmas.List.{length-append}
use Rattle.std.proofs.lemmas.Option.{slice_get-get_or, slice_get_within}
use Rattle.std.proofs.Common.{refl, sym, ap, ◌∙◌, inl, inr, subst, arith}
use Rattle.graphql_spec.specs.Laws.{In}
use Rattle.juniper_merging.specs.Sets.{Extends, IsInside, IsTable}
use Rattle.juniper_merging.specs.Tables.{joined, list_or_none, set_at, set_of, table_from, table_of}
use Rattle.juniper_merging.specs.declared.sets.FieldSet.{FieldSet}

-- ## What stands at a number

pub set-some : (t : List (List ℕ)) (i : ℕ) (l : List ℕ) → slice_get t i ≡ Some l → set_at t i ≡ l
unfolding set_at list_or_none
set-some t i l e = ap list_or_none e

pub set-none : (t : List (List ℕ)) (i : ℕ) → slice_get t i ≡ None → set_at t i ≡ []
unfolding set_at list_or_none
set-none t i e = ap list_or_none e

pub earlier : (i k : ℕ) → i < k + 1 → (i < k) ⊎ (i ≡ k)
earlier zero zero h = inr refl
earlier zero (suc k) h = inl (omega arith)
earlier (suc i) zero h = absurd (omega (arith, h))
earlier (suc i) (suc k) h = elim (earlier i k (omega (arith, h))) [ inl l ↦ inl (omega (arith, l)) | inr e ↦ inr (ap suc e) ]

pub is-there : {A : Type 0} (o : Option A) → (o ≡ None) ⊎ ((x : A) × (o ≡ Some x))
is-there None = inl refl
is-there (Some x) = inr (x, refl)

-- a list as long as one that has nothing at a number has nothing there
pub none-there : {A B : Type 0} (xs : List A) (ys : List B) (i : ℕ) → length xs ≡ length ys → slice_get xs i ≡ None → slice_get ys i ≡ None
none-there xs [] i c f = refl
none-there [] (y ∷ ys) i c f = absurd (omega (arith, c))
none-there (x ∷ xs) (y ∷ ys) zero c f = cc
none-there (x ∷ xs) (y ∷ ys) (suc i) c f = none-there xs ys i (omega (arith, c)) f

inside-of : (t : List (List ℕ)) (p : ℕ) → p < length t → IsInside t p
inside-of t p l = (get_or t p [], slice_get-get_or t p [] l)

module _ (xs : List FieldSet) (is : IsTable xs) where
  -- what a set holds
  pub set-held : (i : ℕ) (s : FieldSet) → slice_get xs i ≡ Some s → set_at (table_of xs) i ≡ set_of (table_of xs) s
  set-held i s e = set-some (table_of xs) i (set_of (table_of xs) s) (is.held i s e)

  -- it is made of sets that are there
  pub part-inside : (i : ℕ) (s : FieldSet) (p : ℕ) → slice_get xs i ≡ Some s → In p s.parts.items → IsInside (table_of xs) p
  part-inside i s p e m = inside-of (table_of xs) p (let l = slice_get_within xs i s e in let b = is.before i s p e m in let c = is.count in omega
      (arith, l, b, c))

-- sets of the same fields and parts hold the same
pub same-held : (xs : List FieldSet) → IsTable xs → (i j : ℕ) (s u : FieldSet) → slice_get xs i ≡ Some s → slice_get xs j ≡ Some u →
    s.fields.items ≡ u.fields.items → s.parts.items ≡ u.parts.items → set_at (table_of xs) i ≡ set_at (table_of xs) j
unfolding set_of
same-held xs is i j s u e f own parts =
    set-held xs is i s e ∙ ((λ k. own k ++ joined (table_of xs) (parts k)) ∙ sym (set-held xs is j u f))

-- ## One set more

table-from-more : (t : List (List ℕ)) (xs : List FieldSet) (x : FieldSet) → table_from t (xs ++ x ∷ []) ≡ table_from t xs ++ set_of (table_from t xs) x ∷ []
unfolding table_from
table-from-more t [] x = refl
table-from-more t (y ∷ xs) x = table-from-more (t ++ set_of t y ∷ []) xs x

pub table-more : (xs : List FieldSet) (x : FieldSet) → table_of (xs ++ x ∷ []) ≡ table_of xs ++ set_of (table_of xs) x ∷ []
unfolding table_of
table-more xs x = table-from-more [] xs x

pub in-first : {A : Type 0} (xs ys : List A) (i : ℕ) (x : A) → slice_get xs i ≡ Some x → slice_get (xs ++ ys) i ≡ Some x
in-first [] ys i x e = cc
in-first (y ∷ xs) ys zero x e = e
in-first (y ∷ xs) ys (suc i) x e = in-first xs ys i x e

at-end : {A : Type 0} (xs : List A) (x : A) → slice_get (xs ++ x ∷ []) (length xs) ≡ Some x
at-end [] x = refl
at-end (y ∷ xs) x = at-end xs x

-- what stands in a list with one more stands there before, or is the last
pub one-of : {A : Type 0} (xs : List A) (x y : A) (i : ℕ) → slice_get (xs ++ x ∷ []) i ≡ Some y → (slice_get xs i ≡ Some y) ⊎ ((i ≡ length xs) × (x ≡ y))
one-of [] x y zero e = inr (refl, cc)
one-of [] x y (suc i) e = cc
one-of (z ∷ xs) x y zero e = inl e
one-of (z ∷ xs) x y (suc i) e = elim (one-of xs x y i e) [ inl f ↦ inl f | inr f ↦ inr (ap suc f.0, f.1) ]

module _ (xs : List FieldSet) (x : FieldSet) (is : IsTable xs) where
  abbrev was : List (List ℕ)
  was = table_of xs

  abbrev now : List (List ℕ)
  now = table_of (xs ++ x ∷ [])

  pub extends-more : Extends was now
  extends-more i l e = subst (λ t. slice_get t i ≡ Some l) (sym (table-more xs x)) (in-first was (set_of was x ∷ []) i l e)

  pub last-set : slice_get now (length xs) ≡ Some (set_of was x)
  last-set = subst (λ t. slice_get t (length xs) ≡ Some (set_of was x)) (sym (table-more xs x))
      (subst (λ n. slice_get (was ++ set_of was x ∷ []) n ≡ Some (set_of was x)) is.count (at-end was (set_of was x)))

  joined-same : (ps : List ℕ) → ((p : ℕ) → In p ps → IsInside was p) → joined now ps ≡ joined was ps
  unfolding joined
  joined-same [] inside = refl
  joined-same (p ∷ ps) inside = let r = inside p (inl refl) in
      (λ k. (set-some now p r.0 (extends-more p r.0 r.1) ∙ sym (set-some was p r.0 r.1)) k ++ joined-same ps (λ q m. inside q (inr m)) k)

  set-same : (s : FieldSet) → ((p : ℕ) → In p s.parts.items → IsInside was p) → set_of now s ≡ set_of was s
  unfolding set_of
  set-same s inside = ap (λ l. s.fields.items ++ l) (joined-same s.parts.items inside)

  pub table-with : ((p : ℕ) → In p x.parts.items → IsInside was p) → IsTable (xs ++ x ∷ [])
  table-with inside = record {
    count = ap length (table-more xs x) ∙ (length-append was (set_of was x ∷ []) ∙ (ap (λ n. n + 1) is.count ∙ sym (length-append xs (x ∷ []))));
    held = λ i s e. elim (one-of xs x s i e) [
      | inl g ↦ subst (λ l. slice_get now i ≡ Some l) (sym (set-same s (λ p. part-inside xs is i s p g))) (extends-more i (set_of was s) (is.held i s g))
      | inr g ↦ subst (λ n. slice_get now n ≡ Some (set_of now s)) (sym g.0) (last-set ∙ ap Some (sym (set-same x inside) ∙ ap (set_of now) g.1))
    ];
    before = λ i s p e m. elim (one-of xs x s i e) [
      | inl g ↦ is.before i s p g m
      | inr g ↦ (let r = inside p (subst (λ (z : FieldSet). In p z.parts.items) (sym g.1) m) in let l = slice_get_within was p r.0 r.1 in let c = is.count in
          let q = g.0 in omega (arith, l, c, q))
    ];
  }
