-- Fields of a response key that none of the fields before them has (6.3.2).
use Rattle.std.proofs.Common.{◌≡◌, ◌+◌, ◌<◌, ℕ, Bool, true, false, ◌||◌, cond, List, [], ◌∷◌, ◌++◌, length, get_or, map, take, refl, sym, ap, ◌∙◌, inl, inr}
use Rattle.std.proofs.lemmas.Bool.{cases_Bool}
use Rattle.std.proofs.lemmas.List.{append-nil, map-append, take_more}
use Rattle.std.proofs.lemmas.List.Elements.{filter_more}
use Rattle.std.specs.List.{filter, list_any}
use Rattle.std.specs.Str.{bytes_eq}
use Rattle.graphql_spec.specs.Shown.{Name}
use Rattle.graphql_spec.proofs.Lists.{same_sym}

-- one name more
any-last : (j k : Name) (ns : List Name) → list_any (bytes_eq j) (ns ++ k ∷ []) ≡ (list_any (bytes_eq j) ns || bytes_eq k j)
any-last j k [] = or-false (bytes_eq j k) ∙ same_sym j k
  where
    or-false : (b : Bool) → (b || false) ≡ b
    or-false true = refl
    or-false false = refl
any-last j k (n ∷ ns) = elim (cases_Bool (bytes_eq j n)) [
  | inl e ↦ rw e refl
  | inr e ↦ rw e (any-last j k ns)
]

taken-out : {A : Type 0} (met is : Bool) (l : List A) → cond (met || is) [] l ≡ cond is [] (cond met [] l)
taken-out true true l = refl
taken-out true false l = refl
taken-out false true l = refl
taken-out false false l = refl

module _ {A : Type 0} (key : A → Name) (fields : List A) where
  -- those of a response key that none of the first so many has
  abbrev pub unmet : ℕ → Name → List A
  unmet i k = cond (list_any (bytes_eq k) (map key (take i fields))) [] (filter (λ o. bytes_eq k (key o)) fields)

  -- past one field, those of its response key are no longer among them
  pub unmet-more : (i : ℕ) (o : A) → i < length fields → o ≡ get_or fields i o → (k : Name) → k ≡ key o → (j : Name) →
      unmet (i + 1) j ≡ cond (bytes_eq k j) [] (unmet i j)
  unmet-more i o below is k named j =
      let next : map key (take (i + 1) fields) ≡ map key (take i fields) ++ k ∷ [] =
      ap (map key) (take_more fields i o below) ∙ (map-append key (take i fields) (get_or fields i o ∷ [])
      ∙ ap (λ n. map key (take i fields) ++ n ∷ []) (sym (named ∙ ap key is))) in
      ap (λ ns. cond (list_any (bytes_eq j) ns) [] (filter (λ x. bytes_eq j (key x)) fields)) next
      ∙ (ap (λ b. cond b [] (filter (λ x. bytes_eq j (key x)) fields)) (any-last j k (map key (take i fields)))
      ∙ taken-out (list_any (bytes_eq j) (map key (take i fields))) (bytes_eq k j) (filter (λ x. bytes_eq j (key x)) fields))

module _ {A : Type 0} (f : A → Bool) (xs : List A) (i : ℕ) (x : A) (below : i < length xs) (is : x ≡ get_or xs i x) (old new : List A)
    (so_far : old ≡ filter f (take i xs)) where
  -- one more that passes the test is put behind those before it
  pub one-passes : f x ≡ true → new ≡ old ++ x ∷ [] → new ≡ filter f (take (i + 1) xs)
  one-passes passes e =
      let here : cond (f (get_or xs i x)) (get_or xs i x ∷ []) [] ≡ x ∷ [] = ap (λ y. cond (f y) (y ∷ []) []) (sym is) ∙ rw passes refl in
      e ∙ (ap (λ l. l ++ x ∷ []) so_far ∙ (ap (λ l. filter f (take i xs) ++ l) (sym here) ∙ sym (filter_more f xs i x below)))

  -- one that does not leaves them
  pub one-fails : f x ≡ false → new ≡ old → new ≡ filter f (take (i + 1) xs)
  one-fails fails e =
      let here : cond (f (get_or xs i x)) (get_or xs i x ∷ []) [] ≡ [] = ap (λ y. cond (f y) (y ∷ []) []) (sym is) ∙ rw fails refl in
      e ∙ (so_far ∙ (sym (append-nil (filter f (take i xs))) ∙ (ap (λ l. filter f (take i xs) ++ l) (sym here) ∙ sym (filter_more f xs i x below))))
