-- Whether one of a list's items passes a test: what is left decides.
use Rattle.std.proofs.Common.{◌≡◌, ℕ, ◌+◌, ◌<◌, ◌≤◌, Bool, true, false, ◌||◌, List, [], ◌∷◌, length, get_or, drop, map, refl, sym, ap, ◌∙◌}
use Rattle.std.specs.List.{list_any}
use Rattle.std.proofs.lemmas.List.{drop_all}
use Rattle.juniper_syntax.proofs.Lists.{left-is}

-- one of the items passes where one of their views does
pub any-seen : {A B : Type 0} (view : A → B) (test : B → Bool) (xs : List A) → list_any (λ x. test (view x)) xs ≡ list_any test (map view xs)
any-seen view test [] = refl
any-seen view test (x ∷ xs) = ap (λ b. test (view x) || b) (any-seen view test xs)

module _ {A B : Type 0} (view : A → B) (test : B → Bool) (xs : List A) where
  abbrev passes : A → Bool
  passes x = test (view x)

  -- none before it passes
  abbrev pub IsOpen : ℕ → Type 0
  IsOpen i = list_any test (map view xs) ≡ list_any passes (drop i xs)

  pub open-first : IsOpen 0
  open-first = sym (any-seen view test xs)

  at-turn : (i : ℕ) (x : A) → i < length xs → x ≡ get_or xs i x → IsOpen i → list_any test (map view xs) ≡ (test (view x) || list_any passes (drop (i + 1) xs))
  at-turn i x below is so_far = so_far ∙ ap (list_any passes) (left-is xs i x below is)

  pub open-next : (i : ℕ) (x : A) → i < length xs → x ≡ get_or xs i x → test (view x) ≡ false → IsOpen i → IsOpen (i + 1)
  open-next i x below is fails so_far = at-turn i x below is so_far ∙ ap (λ b. b || list_any passes (drop (i + 1) xs)) fails

  pub one-passes : (i : ℕ) (x : A) → i < length xs → x ≡ get_or xs i x → test (view x) ≡ true → IsOpen i → true ≡ list_any test (map view xs)
  one-passes i x below is holds so_far = sym (at-turn i x below is so_far ∙ ap (λ b. b || list_any passes (drop (i + 1) xs)) holds)

  pub none-passes : (i : ℕ) → length xs ≤ i → IsOpen i → false ≡ list_any test (map view xs)
  none-passes i past so_far = sym (so_far ∙ rw (drop_all i xs past) refl)
