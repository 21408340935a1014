-- Lists that a loop goes over.
use Rattle.std.specs.Bool.{◌==◌}
use Rattle.std.specs.List.{list_all}
use Rattle.std.proofs.lemmas.Bool.{and_parts, eqb-true}
use Rattle.std.proofs.Common.{◌≡◌, ℕ, zero, suc, Bool, true, false, arith, ◌+◌, ◌-◌, ◌<◌, List, [], ◌∷◌, ◌++◌, length, get_or, take, drop, map, refl, sym, ap}
use Rattle.std.proofs.Common.{◌∙◌}
use Rattle.std.proofs.lemmas.List.{drop_more, take_all, length-drop}

-- what is left begins with the item of this turn
pub left-is : {A : Type 0} (xs : List A) (i : ℕ) (x : A) → i < length xs → x ≡ get_or xs i x → drop i xs ≡ x ∷ drop (i + 1) xs
left-is xs i x below is = drop_more xs i x below ∙ ap (λ y. y ∷ drop (i + 1) xs) (sym is)

pub seen-left-is : {A B : Type 0} (view : A → B) (xs : List A) (i : ℕ) (x : A) → i < length xs → x ≡ get_or xs i x →
    map view (drop i xs) ≡ view x ∷ map view (drop (i + 1) xs)
seen-left-is view xs i x below is = ap (map view) (left-is xs i x below is)

pub seen-last : {A B : Type 0} (view : A → B) (ys : List A) (x : A) → map view (ys ++ x ∷ []) ≡ map view ys ++ view x ∷ []
seen-last view [] x = refl
seen-last view (y ∷ ys) x = ap (λ r. view y ∷ r) (seen-last view ys x)

-- one more item at the end
pub seen-push : {A B : Type 0} (view : A → B) (xs made : List A) (x : A) → made ≡ xs ++ x ∷ [] → map view made ≡ map view xs ++ view x ∷ []
seen-push view xs made x e = ap (map view) e ∙ seen-last view xs x

-- what holds of all items holds of one
pub all-at : {A : Type 0} (P : A → Bool) (xs : List A) (i : ℕ) (x : A) → list_all P xs ≡ true → i < length xs → x ≡ get_or xs i x → P x ≡ true
all-at P [] i x all below is = absurd (omega arith)
all-at P (y ∷ ys) zero x all below is = ap P is ∙ (and_parts (P y) (list_all P ys) all).0
all-at P (y ∷ ys) (suc i) x all below is = all-at P ys i x (and_parts (P y) (list_all P ys) all).1 (omega arith) is

-- what a slice from an index on holds
pub rest-is : {A : Type 0} (xs : List A) (j : ℕ) → take (length xs - j) (drop j xs) ≡ drop j xs
rest-is xs j = take_all (length xs - j) (drop j xs) (omega (arith, length-drop j xs))

-- a list of which none, or some, are seen
pub none-seen : {A B : Type 0} (view : A → B) (xs : List A) (n : ℕ) → n ≡ length xs → true ≡ (n == 0) → map view xs ≡ []
none-seen view [] n is e = refl
none-seen view (x ∷ xs) n is e = absurd (omega (arith, eqb-true n 0 (sym e)))

pub some-seen : {A B : Type 0} (view : A → B) (xs : List A) (n : ℕ) → n ≡ length xs → false ≡ (n == 0) → map view xs ≡ [] → ⊥
some-seen view [] n is e none = cc (e, is)
some-seen view (x ∷ xs) n is e none = cc
