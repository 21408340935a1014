-- What is found at each definition: what is listed, and then what the definitions that are left show.
use Rattle.std.proofs.Common.{◌≡◌, ℕ, ◌+◌, ◌<◌, ◌≤◌, List, [], ◌∷◌, ◌++◌, length, get_or, take, drop, map, refl, sym, ap, append_assoc, append-nil, ◌∙◌}
use Rattle.std.proofs.lemmas.List.{drop_all, map-append, take_more}
use Rattle.graphql_spec.specs.Documents.{Definition}
use Rattle.graphql_spec.specs.Rules.{RuleError, at_each}
use Rattle.juniper_syntax.proofs.Lists.{left-is}

taken-is : {A : Type 0} (xs : List A) (i : ℕ) (x : A) → i < length xs → x ≡ get_or xs i x → take (i + 1) xs ≡ take i xs ++ x ∷ []
taken-is xs i x below is = take_more xs i x below ∙ ap (λ y. take i xs ++ y ∷ []) (sym is)

-- the definitions before the next place
pub earlier-is : {A : Type 0} (view : A → Definition) (xs : List A) (i : ℕ) (x : A) → i < length xs → x ≡ get_or xs i x →
    map view (take (i + 1) xs) ≡ map view (take i xs) ++ view x ∷ []
earlier-is view xs i x below is = ap (map view) (taken-is xs i x below is) ∙ map-append view (take i xs) (x ∷ [])

module _ {A : Type 0} (view : A → Definition) (f : List Definition → Definition → List RuleError) (xs : List A) where
  -- the errors so far, of the definitions before this place
  abbrev pub IsFoundBefore : ℕ → List RuleError → Type 0
  IsFoundBefore i es = es ++ at_each f (map view (take i xs)) (map view (drop i xs)) ≡ at_each f [] (map view xs)

  pub found-first : (es : List RuleError) → es ≡ [] → IsFoundBefore 0 es
  found-first es none = rw (none) refl

  pub found-next : (i : ℕ) (x : A) → i < length xs → x ≡ get_or xs i x → (es fs : List RuleError) → fs ≡ es ++ f (map view (take i xs)) (view x) →
      IsFoundBefore i es → IsFoundBefore (i + 1) fs
  unfolding at_each
  found-next i x below is es fs more so_far =
      ap (λ l. l ++ at_each f (map view (take (i + 1) xs)) (map view (drop (i + 1) xs))) more
      ∙ (append_assoc es (f (map view (take i xs)) (view x)) (at_each f (map view (take (i + 1) xs)) (map view (drop (i + 1) xs)))
      ∙ (ap (λ l. es ++ (f (map view (take i xs)) (view x) ++ at_each f l (map view (drop (i + 1) xs)))) (earlier-is view xs i x below is)
      ∙ (ap (λ l. es ++ at_each f (map view (take i xs)) (map view l)) (sym (left-is xs i x below is)) ∙ so_far)))

  pub found-all : (i : ℕ) → length xs ≤ i → (es : List RuleError) → IsFoundBefore i es → es ≡ at_each f [] (map view xs)
  unfolding at_each
  found-all i past es so_far = sym (append-nil es) ∙ (ap (λ l. es ++ at_each f (map view (take i xs)) (map view l)) (sym (drop_all i xs past)) ∙ so_far)
