-- Lists one behind the other.
use Rattle.std.proofs.Common.{◌≡◌, Bool, ◌||◌, List, [], ◌∷◌, ◌++◌, refl, sym, ap, ap₂, append-nil, append_assoc, ◌∙◌}
use Rattle.std.specs.List.{flat_map, list_any}
use Rattle.juniper_explain.specs.Explanations.{has_any}

-- taken from the left
abbrev pub from-left : {A : Type 0} → List A → List (List A) → List A
from-left front [] = front
from-left front (x ∷ xs) = from-left (front ++ x) xs

pub all-from-left : {A : Type 0} (front : List A) (xs : List (List A)) → from-left front xs ≡ front ++ flat_map (λ l. l) xs
all-from-left front [] = sym (append-nil front)
all-from-left front (x ∷ xs) = all-from-left (front ++ x) xs ∙ append_assoc front x (flat_map (λ l. l) xs)

-- ## Whether there is any

pub has-append : {A : Type 0} (xs ys : List A) → has_any (xs ++ ys) ≡ (has_any xs || has_any ys)
unfolding has_any
has-append [] ys = refl
has-append (x ∷ xs) ys = refl

pub has-flat : {A B : Type 0} (f : A → List B) (xs : List A) → has_any (flat_map f xs) ≡ list_any (λ x. has_any (f x)) xs
unfolding has_any
has-flat f [] = refl
has-flat f (x ∷ xs) = has-append (f x) (flat_map f xs) ∙ ap (λ b. has_any (f x) || b) (has-flat f xs)

pub any-same : {A : Type 0} (f g : A → Bool) → ((x : A) → f x ≡ g x) → (xs : List A) → list_any f xs ≡ list_any g xs
any-same f g same [] = refl
any-same f g same (x ∷ xs) = ap (λ b. b || list_any f xs) (same x) ∙ ap (λ b. g x || b) (any-same f g same xs)

-- what is found at each is what passes at each
pub has-each : {A B : Type 0} (f : A → List B) (test : A → Bool) → ((x : A) → has_any (f x) ≡ test x) → (xs : List A) →
    has_any (flat_map f xs) ≡ list_any test xs
has-each f test same xs = has-flat f xs ∙ any-same (λ x. has_any (f x)) test same xs

-- ## Steps that each add something

module _ {A : Type 0} where
  pub two-added : (old a new x y x' y' : List A) → a ≡ old ++ x → new ≡ a ++ y → x ≡ x' → y ≡ y' → new ≡ (old ++ x') ++ y'
  two-added old a new x y x' y' p q e f = q ∙ ap₂ (λ u v. u ++ v) (p ∙ ap (λ v. old ++ v) e) f

  pub three-added : (old a b new x y z x' y' z' : List A) → a ≡ old ++ x → b ≡ a ++ y → new ≡ b ++ z → x ≡ x' → y ≡ y' → z ≡ z' →
      new ≡ ((old ++ x') ++ y') ++ z'
  three-added old a b new x y z x' y' z' p q r e f g = r ∙ ap₂ (λ u v. u ++ v) (two-added old a b x y x' y' p q e f) g

  -- three findings, and then the others
  pub behind-three : (old x y z rest : List A) → (((old ++ x) ++ y) ++ z) ++ rest ≡ old ++ (x ++ (y ++ (z ++ rest)))
  behind-three old x y z rest =
      append_assoc ((old ++ x) ++ y) z rest ∙ (append_assoc (old ++ x) y (z ++ rest) ∙ append_assoc old x (y ++ (z ++ rest)))
