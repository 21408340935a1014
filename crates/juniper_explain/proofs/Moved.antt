-- Items that are moved from one list to the end of another.
use Rattle.std.proofs.Common.{arith, ℕ, ◌≡◌, length, List, [], ◌∷◌, ◌++◌, map, sym, ap, append-nil, append_assoc, ◌∙◌, refl}
use Rattle.std.proofs.lemmas.List.{map-append}

-- what is moved goes before what is left
module _ {A B C : Type 0} (f : A → C) (view : B → C) (all : List C) where
  abbrev pub AreMoved : List B → List A → Type 0
  AreMoved made left = map view made ++ map f left ≡ all

  pub moved-turn : (made new : List B) (left next : List A) (a : A) (b : B) → AreMoved made left → left ≡ a ∷ next → new ≡ made ++ b ∷ [] → view b ≡ f a →
      AreMoved new next
  moved-turn made new left next a b so_far is more same =
      ap (λ l. map view l ++ map f next) more
      ∙ (ap (λ l. l ++ map f next) (map-append view made (b ∷ []))
      ∙ (append_assoc (map view made) (view b ∷ []) (map f next)
      ∙ (ap (λ c. map view made ++ c ∷ map f next) same ∙ (ap (λ l. map view made ++ map f l) (sym is) ∙ so_far))))

  pub moved-all : (made : List B) (left : List A) → left ≡ [] → AreMoved made left → map view made ≡ all
  moved-all made left none so_far = sym (append-nil (map view made)) ∙ (ap (λ l. map view made ++ map f l) (sym none) ∙ so_far)

-- a list without length has no items
pub none-left : {A : Type 0} (xs : List A) (n : ℕ) → n ≡ length xs → n ≡ 0 → xs ≡ []
none-left [] n e z = refl
none-left (a ∷ xs) n e z = absurd (omega arith)
