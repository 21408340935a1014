-- The first of an enum's values that has a name, as it is looked for.
use Rattle.std.proofs.Common.{◌≡◌, ◌≤◌, ◌<◌, ◌+◌, ℕ, cond, List, ◌∷◌, Some, None, length, drop, get_or, bytes_eq, ap, subst, refl, ◌∙◌}
use Rattle.std.proofs.lemmas.List.{at_drop_more, drop_all}
use Rattle.graphql_spec.specs.Shown.{Name}
use Rattle.juniper_words.specs.InputsRead.{named_among}

module _ {A : Type 0} (name_of : A → Name) (n : Name) (xs : List A) where
  -- the next of them is it, or those behind have it
  pub named-next : (i : ℕ) (x : A) → i < length xs → x ≡ get_or xs i x →
      named_among name_of (drop i xs) n ≡ cond (bytes_eq (name_of x) n) (Some x) (named_among name_of (drop (i + 1) xs) n)
  named-next i x below is =
      at_drop_more (λ ys. named_among name_of ys n) xs i x below ∙ subst (λ y. named_among name_of (y ∷ drop (i + 1) xs) n
      ≡ cond (bytes_eq (name_of x) n) (Some x) (named_among name_of (drop (i + 1) xs) n)) is refl

  -- nothing is left
  pub named-none : (i : ℕ) → length xs ≤ i → named_among name_of (drop i xs) n ≡ None
  named-none i done = ap (λ ys. named_among name_of ys n) (drop_all i xs done)
