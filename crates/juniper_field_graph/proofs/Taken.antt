-- Items that a loop has passed.
use Rattle.std.proofs.Common.{◌≡◌, ℕ, ◌+◌, ◌<◌, List, [], ◌∷◌, ◌++◌, length, get_or, take, drop, map, inl, refl, sym, ap, subst, ◌∙◌}
use Rattle.std.proofs.lemmas.List.{take_more, take-append-drop, map-append}
use Rattle.graphql_spec.specs.Laws.{In}
use Rattle.graphql_spec.proofs.Grouping.{in_second}
use Rattle.juniper_syntax.proofs.Lists.{left-is, seen-last}

module _ {A B : Type 0} (view : A → B) (xs : List A) where
  pub taken-more : (i : ℕ) (x : A) → i < length xs → x ≡ get_or xs i x → map view (take (i + 1) xs) ≡ map view (take i xs) ++ view x ∷ []
  taken-more i x below is = ap (map view) (take_more xs i x below ∙ ap (λ y. take i xs ++ y ∷ []) (sym is)) ∙ seen-last view (take i xs) x

  pub left-more : (i : ℕ) (x : A) → i < length xs → x ≡ get_or xs i x → map view (drop i xs) ≡ view x ∷ map view (drop (i + 1) xs)
  left-more i x below is = ap (map view) (left-is xs i x below is)

  pub in-taken : (i : ℕ) (x : A) → i < length xs → x ≡ get_or xs i x → In (view x) (map view xs)
  in-taken i x below is = subst (λ l. In (view x) (map view l)) (take-append-drop i xs)
      (subst (In (view x)) (sym (map-append view (take i xs) (drop i xs)))
      (in_second (view x) (map view (take i xs)) (map view (drop i xs)) (subst (In (view x)) (sym (left-more i x below is)) (inl refl))))
