-- The pieces of a text between separators.
use Rattle.std.proofs.Common.{◌≡◌, ℕ, ◌+◌, ◌<◌, ◌≤◌, nat_lt, ◌&&◌, not, Bool, true, false, Option, None, List, [], ◌∷◌, length, take, drop}
use Rattle.std.proofs.Common.{refl, sym, ap, ◌∙◌, inl, inr, arith, take_all, length-drop}
use Rattle.std.proofs.lemmas.Bool.{cases_Bool}
use Rattle.std.proofs.lemmas.Bool.Decides.{nat_tests}
use Rattle.std.proofs.lemmas.List.{drop_all}
use Rattle.std.proofs.lemmas.List.Splits.{slice_split_first, slice_split_none}
use Rattle.std.proofs.lemmas.List.Sums.{fails_before_first, prefix_len-le-length}
use Rattle.std.specs.List.{after_first, before_first, cons_option, filter_map, list_all, position_or_len, slice_split}

one_piece : (p : ℕ → Bool) (xs : List ℕ) → position_or_len p xs ≡ length xs → slice_split p xs ≡ xs ∷ []
one_piece p xs e = slice_split_none p xs (λ k d m. fails_before_first p xs k d (omega arith))

-- the text is cut at its first separator
abbrev pub IsCut : (ℕ → Bool) → List ℕ → List ℕ → List ℕ → Type 0
IsCut p xs first rest = (first ≡ before_first p xs) × (rest ≡ after_first p xs) × (position_or_len p xs < length xs)

pieces_of_cut : (p : ℕ → Bool) (xs first rest : List ℕ) → IsCut p xs first rest → slice_split p xs ≡ first ∷ slice_split p rest
pieces_of_cut p xs first rest h = rw h.0 (rw h.1 (slice_split_first p xs 0 h.2))

-- a test of each piece, by the first and the rest
pub first_passes : (test : List ℕ → Bool) (q : ℕ → Bool) (xs first rest : List ℕ) (b t : Bool) → IsCut q xs first rest → b ≡ test first → b ≡ true
    → t ≡ list_all test (slice_split q rest) → t ≡ list_all test (slice_split q xs)
first_passes test q xs first rest b t h is passes later = rw (pieces_of_cut q xs first rest h) (rw (sym is) (rw passes later))

pub first_fails : (test : List ℕ → Bool) (q : ℕ → Bool) (xs first rest : List ℕ) (b : Bool) → IsCut q xs first rest → b ≡ test first → b ≡ false
    → b ≡ list_all test (slice_split q xs)
first_fails test q xs first rest b h is fails = rw (pieces_of_cut q xs first rest h) (rw (sym is) (rw fails refl))

and_true : (b : Bool) → b ≡ b && true
and_true true = refl
and_true false = refl

pub one_passes : (test : List ℕ → Bool) (q : ℕ → Bool) (xs : List ℕ) (b : Bool) → position_or_len q xs ≡ length xs → b ≡ test xs
    → b ≡ list_all test (slice_split q xs)
one_passes test q xs b e is = rw (one_piece q xs e) (rw is (and_true (test xs)))

-- What f gives of the pieces, by the first and the rest. Where no separator is, the first is the whole, and the rest is nothing.
step_of_cut : {A : Type 0} (f : List ℕ → Option A) (p : ℕ → Bool) (xs : List ℕ) → position_or_len p xs < length xs
    → filter_map f (slice_split p xs) ≡ cons_option (f (before_first p xs)) (filter_map f (slice_split p (after_first p xs)))
step_of_cut f p xs l = ap (filter_map f) (slice_split_first p xs 0 l)

step_of_one : {A : Type 0} (f : List ℕ → Option A) (p : ℕ → Bool) (xs : List ℕ) → f [] ≡ None → position_or_len p xs ≡ length xs
    → filter_map f (slice_split p xs) ≡ cons_option (f (before_first p xs)) (filter_map f (slice_split p (after_first p xs)))
step_of_one f p xs none e =
    let before : before_first p xs ≡ xs = ap (λ n. take n xs) e ∙ take_all (length xs) xs (omega arith) in
    let after : after_first p xs ≡ [] = ap (λ n. drop (n + 1) xs) e ∙ drop_all (length xs + 1) xs (omega arith) in
    let nothing : filter_map f (slice_split p []) ≡ [] = ap (λ o. cons_option o []) none in
    let whole : filter_map f (slice_split p xs) ≡ cons_option (f xs) [] = ap (filter_map f) (one_piece p xs e) in
    let rest : filter_map f (slice_split p (after_first p xs)) ≡ [] = ap (λ a. filter_map f (slice_split p a)) after ∙ nothing in
    let first : cons_option (f (before_first p xs)) [] ≡ cons_option (f xs) [] = ap (λ b. cons_option (f b) []) before in
    whole ∙ sym first ∙ sym (ap (λ rest. cons_option (f (before_first p xs)) rest) rest)

pub pieces_step : {A : Type 0} (f : List ℕ → Option A) (p : ℕ → Bool) (xs : List ℕ) → f [] ≡ None
    → filter_map f (slice_split p xs) ≡ cons_option (f (before_first p xs)) (filter_map f (slice_split p (after_first p xs)))
pieces_step f p xs none =
    let within : position_or_len p xs ≤ length xs = prefix_len-le-length (λ x. not (p x)) xs in
    elim (cases_Bool (nat_lt (position_or_len p xs) (length xs))) [
      | inl less ↦ step_of_cut f p xs (grind (arith, nat_tests))
      | inr same ↦ step_of_one f p xs none (grind (arith, nat_tests))
    ]

pub shorter : (p : ℕ → Bool) (xs after : List ℕ) → after ≡ after_first p xs → 0 < length xs → length after < length xs
shorter p xs after a l = rw a (omega (arith, length-drop (position_or_len p xs + 1) xs))
