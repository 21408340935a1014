-- Keys beside their values, as one list: what a search of the keys finds, and what a change of one list makes of both.
use Rattle.std.proofs.Common.{◌≡◌, ℕ, suc, ◌+◌, ◌<◌, List, [], ◌∷◌, ◌++◌, length, zip, position, slice_get, slice_set, Some, None, inl, inr}
use Rattle.std.proofs.Common.{Bool, true, false, cond, ◌||◌, not, nat_lt, refl, sym, ap, ◌∙◌, arith}
use Rattle.std.proofs.lemmas.Bool.{cases_Bool}
use Rattle.std.specs.List.{position_or_len, list_any}
use Rattle.std.specs.Map.{lookup, set_value}
use Rattle.indexmap.specs.IndexMap.{insert_entry}

one_more : (n : ℕ) → 1 + n ≡ suc n
one_more n = omega arith

some_inner : {X : Type 0} (b : Bool) (x y : X) → cond b (Some x) None ≡ Some y → x ≡ y
some_inner true x y e = cc
some_inner false x y e = cc

-- the place that a search answers
pub place_of : {K : Type 0} (test : K → Bool) (ks : List K) (i : ℕ) → position test ks ≡ Some i → position_or_len test ks ≡ i
place_of test ks i e = some_inner (nat_lt (position_or_len test ks) (length ks)) (position_or_len test ks) i e

module _ {K : Type 0} (test : K → Bool) where
  -- a key that is there stands before the end
  pub there-within : (ks : List K) → list_any test ks ≡ true → position_or_len test ks < length ks
  there-within [] there = cc
  there-within (k ∷ ks) there =
      elim (cases_Bool (test k)) [
        | inl here ↦ rw here (omega arith)
        | inr here ↦ rw here (omega (arith, there-within ks (sym (ap (λ b. b || list_any test ks) here) ∙ there)))
      ]

module _ {K X : Type 0} (test : K → Bool) where
  -- what is found at the place where the search of the keys ends
  pub found : (ks : List K) (vs : List X) → length vs ≡ length ks → lookup test (zip ks vs) ≡ slice_get vs (position_or_len test ks)
  found [] [] e = refl
  found [] (v ∷ vs) e = absurd (omega arith)
  found (k ∷ ks) [] e = absurd (omega arith)
  found (k ∷ ks) (v ∷ vs) e =
      elim (cases_Bool (test k)) [
        | inl here ↦ rw here refl
        | inr here ↦ rw (here, one_more (position_or_len test ks)) (found ks vs (omega arith))
      ]

  -- a value put there
  pub put : (ks : List K) (vs : List X) (w : X) → length vs ≡ length ks → zip ks (slice_set vs (position_or_len test ks) w) ≡ set_value test (zip ks vs) w
  put [] [] w e = refl
  put [] (v ∷ vs) w e = absurd (omega arith)
  put (k ∷ ks) [] w e = absurd (omega arith)
  put (k ∷ ks) (v ∷ vs) w e =
      elim (cases_Bool (test k)) [
        | inl here ↦ rw here refl
        | inr here ↦ rw (here, one_more (position_or_len test ks)) (ap (λ es. (k, v) ∷ es) (put ks vs w (omega arith)))
      ]

  -- a key that is in no place
  pub missing : (ks : List K) (vs : List X) → list_any test ks ≡ false → lookup test (zip ks vs) ≡ None
  missing [] vs e = refl
  missing (k ∷ ks) [] e = refl
  missing (k ∷ ks) (v ∷ vs) e =
      elim (cases_Bool (test k)) [
        | inl here ↦ cc
        | inr here ↦ rw here (missing ks vs (sym (ap (λ b. b || list_any test ks) here) ∙ e))
      ]

  pub stays : (ks : List K) (vs : List X) (w : X) → list_any test ks ≡ false → set_value test (zip ks vs) w ≡ zip ks vs
  stays [] vs w e = refl
  stays (k ∷ ks) [] w e = refl
  stays (k ∷ ks) (v ∷ vs) w e =
      elim (cases_Bool (test k)) [
        | inl here ↦ cc
        | inr here ↦ rw here (ap (λ es. (k, v) ∷ es) (stays ks vs w (sym (ap (λ b. b || list_any test ks) here) ∙ e)))
      ]

module _ {K X : Type 0} (eq : K → K → Bool) (k : K) (w : X) where
  -- a key that is there takes the value, and a new key goes last
  pub insert-found : (ks : List K) (vs : List X) → length vs ≡ length ks → list_any (eq k) ks ≡ true →
      insert_entry eq (zip ks vs) k w ≡ set_value (eq k) (zip ks vs) w
  insert-found [] vs e there = cc
  insert-found (j ∷ ks) [] e there = absurd (omega arith)
  insert-found (j ∷ ks) (v ∷ vs) e there =
      elim (cases_Bool (eq k j)) [
        | inl here ↦ rw here refl
        | inr here ↦ rw here (ap (λ es. (j, v) ∷ es) (insert-found ks vs (omega arith) (sym (ap (λ b. b || list_any (eq k) ks) here) ∙ there)))
      ]

  pub insert-new : (ks : List K) (vs : List X) → length vs ≡ length ks → list_any (eq k) ks ≡ false →
      insert_entry eq (zip ks vs) k w ≡ zip (ks ++ k ∷ []) (vs ++ w ∷ [])
  insert-new [] [] e gone = refl
  insert-new [] (v ∷ vs) e gone = absurd (omega arith)
  insert-new (j ∷ ks) [] e gone = absurd (omega arith)
  insert-new (j ∷ ks) (v ∷ vs) e gone =
      elim (cases_Bool (eq k j)) [
        | inl here ↦ cc
        | inr here ↦ rw here (ap (λ es. (j, v) ∷ es) (insert-new ks vs (omega arith) (sym (ap (λ b. b || list_any (eq k) ks) here) ∙ gone)))
      ]

pub was_new : (b : Bool) → not b ≡ true → b ≡ false
was_new true e = cc
was_new false e = refl

pub was_there : (b : Bool) → not b ≡ false → b ≡ true
was_there true e = refl
was_there false e = cc
