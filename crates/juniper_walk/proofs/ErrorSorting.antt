-- A sorted permutation of errors: no later one is smaller, and none is more or less often there.
use Rattle.std.proofs.Common.{◌≡◌, ℕ, suc, ◌+◌, ◌≤◌, ◌<◌, Bool, true, false, cond, IsTrue, List, [], ◌∷◌, map, length, get_or, refl, ap, ◌∙◌, sym, arith}
use Rattle.std.specs.List.{sum_by}
use Rattle.std.specs.List.Sorted.{IsSortedBy, IsPermutation}
use Rattle.std.specs.Ordering.{is_lt, ordering_reverse}
use Rattle.std.specs.declared.cmp.Ordering.{Ordering}
use Rattle.std.specs.declared.cmp.Ordering.TheVariants.{Less, Equal, Greater}
use Rattle.std.proofs.lemmas.List.MinMax.{ranks_by}
use Rattle.std.proofs.lemmas.List.Sorted.{sorted_far, sum_by-IsPermutation}
use Rattle.std.proofs.lemmas.List.Sums.{sum_by-cons}
use Rattle.graphql_spec.specs.Errors.{Listed, compare, not_greater, is_least, is_sorted}
use Rattle.graphql_spec.specs.Walk.{count_listed}
use Rattle.graphql_spec.proofs.ErrorOrder.{compare_total}

not_greater_of : (o r : Ordering) → o ≡ ordering_reverse r → is_lt r ≡ false → not_greater o ≡ true
unfolding not_greater
not_greater_of Less r e h = refl
not_greater_of Equal r e h = refl
not_greater_of Greater Less e h = cc
not_greater_of Greater Equal e h = cc
not_greater_of Greater Greater e h = cc

-- what the later one is not less than is not greater
turned : (a b : Listed) → is_lt (compare b a) ≡ false → not_greater (compare a b) ≡ true
turned a b h = not_greater_of (compare a b) (compare b a) (compare_total.antisymm a b) h

module _ {X : Type 0} (view : X → Listed) where
  least : (x : Listed) (ys : List X) → ((j : ℕ) (d : X) → j < length ys → is_lt (compare (view (get_or ys j d)) x) ≡ false) → is_least x (map view ys) ≡ true
  unfolding is_least
  least x [] h = refl
  least x (y ∷ ys) h = rw (turned x (view y) (h 0 y (omega arith)), least x ys (λ j d b. h (suc j) d (omega arith))) refl

  sorted_of_far : (xs : List X) → ((i j : ℕ) (d : X) → i ≤ j → j < length xs → is_lt (compare (view (get_or xs j d)) (view (get_or xs i d))) ≡ false) →
      is_sorted (map view xs) ≡ true
  unfolding is_sorted
  sorted_of_far [] h = refl
  sorted_of_far (x ∷ xs) h = rw (
    least (view x) xs (λ j d b. h 0 (suc j) d (omega arith) (omega arith)),
    sorted_of_far xs (λ i j d b c. h (suc i) (suc j) d (omega arith) (omega arith)),
  ) refl

  pub is_sorted_by : (xs : List X) → IsSortedBy (λ a b. is_lt (compare (view a) (view b))) xs → IsTrue (is_sorted (map view xs))
  is_sorted_by xs up = sorted_of_far xs (sorted_far (λ a b. is_lt (compare (view a) (view b))) (ranks_by compare_total view) xs up)

  count_is_sum : (p : Listed → Bool) (xs : List X) → count_listed p (map view xs) ≡ sum_by (λ x. cond (p (view x)) 1 0) xs
  unfolding count_listed
  count_is_sum p [] = refl
  count_is_sum p (x ∷ xs) = ap (λ n. cond (p (view x)) 1 0 + n) (count_is_sum p xs) ∙ sym (sum_by-cons (λ y. cond (p (view y)) 1 0) x xs)

  pub counts_stay : (p : Listed → Bool) (xs ys : List X) → IsPermutation xs ys → count_listed p (map view ys) ≡ count_listed p (map view xs)
  counts_stay p xs ys h = count_is_sum p ys ∙ (sum_by-IsPermutation (λ x. cond (p (view x)) 1 0) xs ys h ∙ sym (count_is_sum p xs))
