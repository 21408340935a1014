-- Loops over a list, all of whose elements before some place passed a test.
use Rattle.std.specs.Prelude.{ℕ, Bool, true, ◌&&◌, List, [], ◌∷◌, ◌++◌, ◌≡◌, ◌<◌, ◌+◌, length, get_or, take}
use Rattle.std.specs.List.{list_all}
use Rattle.std.proofs.lemmas.List.{take_more}
use Rattle.std.proofs.lemmas.List.Folds.{list_all-append}
use Rattle.std.proofs.Common.{refl, sym, ap, ◌∙◌}

and-true : (b : Bool) → (b && true) ≡ b
and-true b = go b
  where
    go : (b : Bool) → (b && true) ≡ b
    go Bool.true = refl
    go Bool.false = refl

module _ {A : Type 0} (xs : List A) (i : ℕ) where
  -- one more
  pub one-more : (x : A) → i < length xs → x ≡ get_or xs i x → take (i + 1) xs ≡ take i xs ++ x ∷ []
  one-more x below is = take_more xs i x below ∙ ap (λ y. take i xs ++ y ∷ []) (sym is)

  pub all-more : (test : A → Bool) (x : A) → i < length xs → x ≡ get_or xs i x →
      list_all test (take (i + 1) xs) ≡ (list_all test (take i xs) && test x)
  all-more test x below is =
      ap (list_all test) (one-more x below is) ∙ (list_all-append test (take i xs) (x ∷ []) ∙ ap (λ b. list_all test (take i xs) && b) (and-true (test x)))
