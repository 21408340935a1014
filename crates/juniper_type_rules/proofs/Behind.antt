-- Tests of lists, one behind the other.
use Rattle.std.proofs.Common.{◌≡◌, Bool, true, false, ◌||◌, List, [], ◌∷◌, ◌++◌, refl, ap, sym, ◌∙◌}
use Rattle.std.specs.List.{list_any}

pub or-assoc : (a b c : Bool) → (a || (b || c)) ≡ ((a || b) || c)
or-assoc true b c = refl
or-assoc false b c = refl

-- one of two lists behind each other
pub any-either : {A : Type 0} (test : A → Bool) (xs ys : List A) → list_any test (xs ++ ys) ≡ (list_any test xs || list_any test ys)
any-either test [] ys = refl
any-either test (x ∷ xs) ys = ap (λ b. test x || b) (any-either test xs ys) ∙ or-assoc (test x) (list_any test xs) (list_any test ys)

pub any-first : {A : Type 0} (test : A → Bool) (xs ys : List A) → true ≡ list_any test xs → true ≡ list_any test (xs ++ ys)
any-first test xs ys e = ap (λ b. b || list_any test ys) e ∙ sym (any-either test xs ys)

pub any-second : {A : Type 0} (test : A → Bool) (xs ys : List A) (b : Bool) → false ≡ list_any test xs → b ≡ list_any test ys → b ≡ list_any test (xs ++ ys)
any-second test xs ys b none e = e ∙ (ap (λ a. a || list_any test ys) none ∙ sym (any-either test xs ys))
