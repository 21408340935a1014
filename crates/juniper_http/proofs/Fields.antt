-- Fields that are added one by one.
use Rattle.std.proofs.Common.{◌≡◌, List, [], ◌∷◌, ◌++◌, Result, Ok, Err, OnOk, refl, ap}

pub two_added : {X : Type 0} (xs : List X) (a b : X) → (xs ++ a ∷ []) ++ b ∷ [] ≡ xs ++ (a ∷ b ∷ [])
two_added [] a b = refl
two_added (x ∷ xs) a b = ap (λ rest. x ∷ rest) (two_added xs a b)

pub three_added : {X : Type 0} (xs : List X) (a b c : X) → ((xs ++ a ∷ []) ++ b ∷ []) ++ c ∷ [] ≡ xs ++ (a ∷ b ∷ c ∷ [])
three_added [] a b c = refl
three_added (x ∷ xs) a b c = ap (λ rest. x ∷ rest) (three_added xs a b c)

pub on_ok : {T E P Q : Type 0} (r : Result T E) → (P → Q) → OnOk r P → OnOk r Q
on_ok (Ok x) f p = f p
on_ok (Err e) f p = p
