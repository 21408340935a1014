-- Response keys: one occurrence more, and the one at a place of the list.
use Rattle.std.proofs.Common.{◌≡◌, ℕ, zero, suc, Bool, true, false, ◌||◌, List, [], ◌∷◌, ◌++◌, map, take, drop, refl, sym, ap, ◌∙◌}
use Rattle.std.proofs.lemmas.List.{append-nil}
use Rattle.graphql_spec.specs.Shown.{Name}
use Rattle.graphql_spec.specs.Documents.{response_key}
use Rattle.graphql_spec.specs.Selections.{Occurrence, keys, drop_key, with_key}
use Rattle.graphql_spec.proofs.Lists.{known, known-append, keys-append, same_refl, with_key-known, without, IsMore}

pub no-key-more : (os : List Occurrence) (o : Occurrence) → known (response_key o.head) (keys os) ≡ true → keys (os ++ o ∷ []) ≡ keys os
unfolding keys drop_key without
no-key-more os o e = keys-append os (o ∷ []) ∙ rw e (append-nil (keys os))

pub one-key-more : (os : List Occurrence) (o : Occurrence) → known (response_key o.head) (keys os) ≡ false →
    keys (os ++ o ∷ []) ≡ keys os ++ response_key o.head ∷ []
unfolding keys drop_key without
one-key-more os o e = keys-append os (o ∷ []) ∙ rw e refl

pub known-among : (front rest : List Name) (k : Name) → known k (front ++ k ∷ rest) ≡ true
unfolding known
known-among front rest k = known-append k front (k ∷ rest) ∙ rw (same_refl k) (last (known k front))
  where
    last : (b : Bool) → (b || true) ≡ true
    last true = refl
    last false = refl

-- a response key has an occurrence
pub key-has-one : (os : List Occurrence) (front rest : List Name) (k : Name) → keys os ≡ front ++ k ∷ rest → IsMore (with_key k os)
key-has-one os front rest k e = with_key-known k os (ap (known k) e ∙ known-among front rest k)

cons-head : {A : Type 0} (x y : A) (xs ys : List A) → x ∷ xs ≡ y ∷ ys → x ≡ y
cons-head x y xs ys e = cc

cons-tail : {A : Type 0} (x y : A) (xs ys : List A) → x ∷ xs ≡ y ∷ ys → xs ≡ ys
cons-tail x y xs ys e = cc

-- where two lists are seen as one, so are their items at a place
pub map-at : {A B C : Type 0} (f : A → C) (g : B → C) (xs : List A) (ys : List B) → map f xs ≡ map g ys → (i : ℕ) (x : A) (more : List A) →
    drop i xs ≡ x ∷ more → (y : B) × (rest : List B) × (ys ≡ take i ys ++ y ∷ rest) × (f x ≡ g y)
map-at f g [] ys e zero x more d = absurd cc
map-at f g [] ys e (suc i) x more d = absurd cc
map-at f g (z ∷ xs) [] e i x more d = absurd cc
map-at f g (z ∷ xs) (y ∷ ys) e zero x more d = (y, ys, refl, ap f (sym (cons-head z x xs more d)) ∙ cons-head (f z) (g y) (map f xs) (map g ys) e)
map-at f g (z ∷ xs) (y ∷ ys) e (suc i) x more d =
    let r = map-at f g xs ys (cons-tail (f z) (g y) (map f xs) (map g ys) e) i x more d in (r.0, r.1, ap (λ l. y ∷ l) r.2, r.3)
