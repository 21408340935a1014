-- Lists at numbers, and what is put at one of them.
use Rattle.std.specs.Prelude.{ℕ, zero, suc, true, false, cond, List, [], ◌∷◌, ◌++◌, ◌≡◌, ◌⊎◌, ◌<◌, ◌≤◌, Some, None, Vec, length, get_or, nat_eq, take}
use Rattle.std.specs.Prelude.{slice_index_or, slice_set}
use Rattle.std.specs.List.{slice_get}
use Rattle.std.specs.declared.alloc.Global.{Global}
use Rattle.std.proofs.lemmas.Bool.{cases_Bool}
use Rattle.std.proofs.lemmas.List.{append-nil}
use Rattle.std.proofs.lemmas.Option.{slice_get_past}
use Rattle.std.proofs.Common.{arith, refl, sym, ap, ◌∙◌, inl, inr, subst}
use Rattle.graphql_spec.specs.Laws.{In}
use Rattle.graphql_spec.proofs.Grouping.{in_append, in_first, in_second}
use Rattle.juniper_merging.specs.Listed.{IsListedMore, items_of, listed}
use Rattle.juniper_merging.specs.Standing.{Both}
use Rattle.juniper_merging.proofs.Numbers.{itself, same-number}

module _ {A : Type 0} (x : A) where
  set-same : (xs : List A) (p : ℕ) → p < length xs → slice_get (slice_set xs p x) p ≡ Some x
  set-same [] p l = absurd (omega (arith, l))
  set-same (y ∷ xs) zero l = refl
  set-same (y ∷ xs) (suc p) l = set-same xs p (omega (arith, l))

  set-other : (xs : List A) (p i : ℕ) → (p ≡ i → ⊥) → slice_get (slice_set xs p x) i ≡ slice_get xs i
  set-other [] p i d = refl
  set-other (y ∷ xs) zero zero d = absurd (d refl)
  set-other (y ∷ xs) zero (suc i) d = refl
  set-other (y ∷ xs) (suc p) zero d = refl
  set-other (y ∷ xs) (suc p) (suc i) d = set-other xs p i (λ e. d (ap suc e))

  pub set-at : (xs : List A) (p i : ℕ) → p < length xs → slice_get (slice_set xs p x) i ≡ cond (nat_eq p i) (Some x) (slice_get xs i)
  set-at xs p i l = elim (cases_Bool (nat_eq p i)) [
    | inl q ↦ rw q (subst (λ k. slice_get (slice_set xs p x) k ≡ Some x) (same-number p i q) (set-same xs p l))
    | inr q ↦ rw q (set-other xs p i (λ e. differ (sym (subst (λ k. nat_eq p k ≡ true) e (itself p)) ∙ q)))
  ]
    where
      differ : true ≡ false → ⊥
      differ e = cc

pub got-at : {A : Type 0} (xs : List A) (p : ℕ) (x d : A) → p < length xs → x ≡ slice_index_or xs p d → slice_get xs p ≡ Some x
got-at [] p x d l e = absurd (omega (arith, l))
got-at (y ∷ xs) zero x d l e = ap Some (sym e)
got-at (y ∷ xs) (suc p) x d l e = got-at xs p x d (omega (arith, l)) e

pub in-got : {A : Type 0} (xs : List A) (i : ℕ) (x : A) → i < length xs → x ≡ get_or xs i x → In x xs
in-got [] i x l e = absurd (omega (arith, l))
in-got (y ∷ xs) zero x l e = inl e
in-got (y ∷ xs) (suc i) x l e = inr (in-got xs i x (omega (arith, l)) e)

module _ {A : Type 0} (ls : List (Vec A Global)) where
  pub listed-at : (i : ℕ) (v : Vec A Global) → slice_get ls i ≡ Some v → listed ls i ≡ v.items
  unfolding listed items_of
  listed-at i v e = ap items_of e

  pub none-listed : (i : ℕ) → slice_get ls i ≡ None → listed ls i ≡ []
  unfolding listed items_of
  none-listed i e = ap items_of e

  -- a list with one number more is put in the place of the one
  pub listed-more : (p : ℕ) (n : A) (v w : Vec A Global) → p < length ls → slice_get ls p ≡ Some v → w.items ≡ v.items ++ n ∷ [] →
      IsListedMore ls (slice_set ls p w) p n
  unfolding listed items_of
  listed-more p n v w l e more i = ap items_of (set-at w ls p i l) ∙ elim (cases_Bool (nat_eq p i)) [
    | inl q ↦ rw q (more ∙ ap (λ o. items_of o ++ n ∷ []) (sym e ∙ ap (slice_get ls) (same-number p i q)))
    | inr q ↦ rw q (sym (append-nil (items_of (slice_get ls i))))
  ]

  -- an empty list is put in the place of the one
  pub listed-none : (p : ℕ) (w : Vec A Global) → p < length ls → w.items ≡ [] → (i : ℕ) → listed (slice_set ls p w) i ≡ cond (nat_eq p i) [] (listed ls i)
  unfolding listed items_of
  listed-none p w l empty i = ap items_of (set-at w ls p i l) ∙ elim (cases_Bool (nat_eq p i)) [ inl q ↦ rw q empty | inr q ↦ rw q refl ]

  pub past-listed : (p : ℕ) → length ls ≤ p → (i : ℕ) → listed ls i ≡ cond (nat_eq p i) [] (listed ls i)
  past-listed p past i = elim (cases_Bool (nat_eq p i)) [
    | inl q ↦ rw q (none-listed i (slice_get_past ls i (subst (λ n. length ls ≤ n) (same-number p i q) past)))
    | inr q ↦ rw q refl
  ]

-- what is listed still is
pub still-listed : {A : Type 0} (old new : List (Vec A Global)) (p : ℕ) (n : A) → IsListedMore old new p n → (k : ℕ) (i : A) → In i (listed old k) →
    In i (listed new k)
still-listed old new p n more k i m = subst (In i) (sym (more k)) (in_first i (listed old k) (cond (nat_eq p k) (n ∷ []) []) m)

-- so is the number
pub now-listed : {A : Type 0} (old new : List (Vec A Global)) (p : ℕ) (n : A) → IsListedMore old new p n → In n (listed new p)
now-listed old new p n more = subst (In n) (sym (more p)) (in_second n (listed old p) (cond (nat_eq p p) (n ∷ []) []) (rw (itself p) (inl refl)))

-- and nothing else
pub only-listed : {A : Type 0} (old new : List (Vec A Global)) (p : ℕ) (n : A) → IsListedMore old new p n → (k : ℕ) (i : A) → In i (listed new k) →
    In i (listed old k) ⊎ ((i ≡ n) × (k ≡ p))
only-listed old new p n more k i m = elim (in_append i (listed old k) (cond (nat_eq p k) (n ∷ []) []) (subst (In i) (more k) m)) [
  | inl a ↦ inl a
  | inr a ↦ elim (cases_Bool (nat_eq p k)) [
    | inl q ↦ elim (subst (λ b. In i (cond b (n ∷ []) [])) q a) [ inl e ↦ inr (e, sym (same-number p k q)) | inr z ↦ absurd z ]
    | inr q ↦ absurd (subst (λ b. In i (cond b (n ∷ []) [])) q a)
  ]
]

pub nothing-listed : {A : Type 0} (ls : List (Vec A Global)) (i : ℕ) → ls ≡ [] → listed ls i ≡ []
unfolding listed items_of
nothing-listed ls i e = ap (λ l. items_of (slice_get l i)) e

-- with an empty list more, nothing more is listed
pub empty-more : {A : Type 0} (ls ms : List (Vec A Global)) (v : Vec A Global) → v.items ≡ [] → ms ≡ ls ++ v ∷ [] → ((i : ℕ) → listed ls i ≡ []) →
    (i : ℕ) → listed ms i ≡ []
unfolding listed items_of
empty-more {A = A} ls ms v empty e none i = ap (λ l. items_of (slice_get l i)) e ∙ at ls i (none i)
  where
    at : (ls : List (Vec A Global)) (i : ℕ) → items_of (slice_get ls i) ≡ [] → items_of (slice_get (ls ++ v ∷ []) i) ≡ []
    at [] zero n = empty
    at [] (suc i) n = refl
    at (w ∷ ls) zero n = n
    at (w ∷ ls) (suc i) n = at ls i n

pub in-taken : {A : Type 0} (xs : List A) (i : ℕ) (x : A) → In x (take i xs) → In x xs
in-taken xs zero x m = absurd m
in-taken [] (suc i) x m = absurd m
in-taken (y ∷ xs) (suc i) x (inl q) = inl q
in-taken (y ∷ xs) (suc i) x (inr m) = inr (in-taken xs i x m)

-- one of the first so many, and the next one, stand at two places
pub two-taken : {A : Type 0} (xs : List A) (i : ℕ) (x y : A) → i < length xs → y ≡ get_or xs i y → In x (take i xs) → Both x y xs
two-taken [] i x y l e m = absurd (omega (arith, l))
two-taken (z ∷ xs) zero x y l e m = absurd m
two-taken (z ∷ xs) (suc i) x y l e (inl q) = inl (q, in-got xs i y (omega (arith, l)) e)
two-taken (z ∷ xs) (suc i) x y l e (inr m) = inr (inr (two-taken xs i x y (omega (arith, l)) e m))
