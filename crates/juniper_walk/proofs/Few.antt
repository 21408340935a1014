-- Keys that are compared one by one.
use Rattle.std.proofs.Common.{◌≡◌, ◌+◌, ◌-◌, ◌<◌, ◌≤◌, ℕ, Bool, true, false, ◌||◌, List, [], ◌∷◌, length, get_or, map, take, drop, refl, sym, ap, subst}
use Rattle.std.proofs.Common.{arith, ◌∙◌}
use Rattle.std.proofs.lemmas.List.{drop_all, drop_more, take_all}
use Rattle.std.specs.List.{AllByRecursion, IsDistinct, list_any}
use Rattle.std.specs.Str.{bytes_eq}
use Rattle.graphql_spec.specs.Shown.{Name}

neither : (a b : Bool) → (a || b) ≡ false → (a ≡ false) × (b ≡ false)
neither true b e = absurd cc
neither false b e = (refl, e)

none-like : (k : Name) (ks : List Name) → list_any (bytes_eq k) ks ≡ false → AllByRecursion (λ j. bytes_eq k j ≡ false) ks
none-like k [] e = tt
none-like k (j ∷ js) e = let both = neither (bytes_eq k j) (list_any (bytes_eq k) js) e in (both.0, none-like k js both.1)

module _ {A : Type 0} (key : A → Name) where
  -- past one that has another key, what is left decides
  pub key-passed : (k : Name) (xs : List A) (i : ℕ) (x : A) → i < length xs → x ≡ get_or xs i x → bytes_eq k (key x) ≡ false →
      list_any (bytes_eq k) (map key xs) ≡ list_any (bytes_eq k) (map key (drop i xs)) →
      list_any (bytes_eq k) (map key xs) ≡ list_any (bytes_eq k) (map key (drop (i + 1) xs))
  key-passed k xs i x below is differs so_far =
      so_far ∙ (ap (λ l. list_any (bytes_eq k) (map key l)) (drop_more xs i x below ∙ ap (λ y. y ∷ drop (i + 1) xs) (sym is)) ∙ rw differs refl)

  pub key-found : (k : Name) (xs : List A) (i : ℕ) (x : A) → i < length xs → x ≡ get_or xs i x → bytes_eq k (key x) ≡ true →
      list_any (bytes_eq k) (map key xs) ≡ list_any (bytes_eq k) (map key (drop i xs)) → true ≡ list_any (bytes_eq k) (map key xs)
  key-found k xs i x below is same so_far =
      sym (so_far ∙ (ap (λ l. list_any (bytes_eq k) (map key l)) (drop_more xs i x below ∙ ap (λ y. y ∷ drop (i + 1) xs) (sym is)) ∙ rw same refl))

  pub key-absent : (k : Name) (xs : List A) (i : ℕ) → length xs ≤ i →
      list_any (bytes_eq k) (map key xs) ≡ list_any (bytes_eq k) (map key (drop i xs)) → false ≡ list_any (bytes_eq k) (map key xs)
  key-absent k xs i past so_far = sym (so_far ∙ ap (λ l. list_any (bytes_eq k) (map key l)) (drop_all i xs past))

  -- one more whose key none of the others has
  pub one-more-differs : (x : A) (xs : List A) → list_any (bytes_eq (key x)) (map key xs) ≡ false → IsDistinct bytes_eq (map key xs) →
      IsDistinct bytes_eq (map key (x ∷ xs))
  unfolding IsDistinct
  one-more-differs x xs none distinct = (none-like (key x) (map key xs) none, distinct)

  pub none-differ : (xs : List A) → length xs ≡ 0 → IsDistinct bytes_eq (map key xs)
  unfolding IsDistinct
  none-differ [] e = tt
  none-differ (x ∷ xs) e = absurd cc

  pub rest-is : (xs : List A) → take (length xs - 1) (drop 1 xs) ≡ drop 1 xs
  rest-is [] = refl
  rest-is (x ∷ xs) = take_all (length (x ∷ xs) - 1) xs (omega arith)

  -- the first has a key that none of the rest has
  pub first-differs : (xs : List A) (x : A) → 1 ≤ length xs → x ≡ get_or xs 0 x → list_any (bytes_eq (key x)) (map key (drop 1 xs)) ≡ false →
      IsDistinct bytes_eq (map key (drop 1 xs)) → IsDistinct bytes_eq (map key xs)
  first-differs [] x some is none distinct = absurd (omega (arith, some))
  first-differs (y ∷ ys) x some is none distinct =
      one-more-differs y ys (subst (λ z. list_any (bytes_eq (key z)) (map key ys) ≡ false) is none) distinct
