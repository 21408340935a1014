-- The operations of a document, counted one after the other.
use Rattle.std.proofs.Common.{◌≡◌, ℕ, ◌+◌, ◌<◌, ◌≤◌, List, [], ◌∷◌, ◌++◌, length, get_or, drop, map, refl, sym, ap, ◌∙◌}
use Rattle.std.proofs.lemmas.List.{append-nil, append_assoc, drop_all}
use Rattle.graphql_spec.specs.Documents.{Definition, Fragment, Operation, fragment, operation, operations}
use Rattle.juniper_syntax.proofs.Lists.{seen-last, seen-left-is}

pub map-same : {A B : Type 0} {f g : A → B} → ((x : A) → f x ≡ g x) → (xs : List A) → map f xs ≡ map g xs
map-same e [] = refl
map-same e (x ∷ xs) = cc (e x, map-same e xs)

module _ {A B D : Type 0} (view : D → Definition) (ds : List D) (value : Operation → A) (seen : B → A) where
  -- what is counted, with what is left, is the whole
  abbrev pub AreCountedTo : ℕ → List B → Type 0
  AreCountedTo i made = map seen made ++ map value (operations (map view (drop i ds))) ≡ map value (operations (map view ds))

  left-at : (i : ℕ) (x : D) (d : Definition) → i < length ds → x ≡ get_or ds i x → view x ≡ d →
      operations (map view (drop i ds)) ≡ operations (d ∷ map view (drop (i + 1) ds))
  left-at i x d below at is =
      ap operations (seen-left-is view ds i x below at) ∙ ap (λ y. operations (y ∷ map view (drop (i + 1) ds))) is

  pub operation-next : (i : ℕ) (x : D) (o : Operation) (made : List B) (one : B) → i < length ds → x ≡ get_or ds i x → view x ≡ operation o →
      seen one ≡ value o → AreCountedTo i made → AreCountedTo (i + 1) (made ++ one ∷ [])
  unfolding operations
  operation-next i x o made one below at is e so_far =
      let rest = map value (operations (map view (drop (i + 1) ds))) in
      ap (λ l. l ++ rest) (seen-last seen made one)
      ∙ (append_assoc (map seen made) (seen one ∷ []) rest
      ∙ (ap (λ y. map seen made ++ y ∷ rest) e
      ∙ (ap (λ l. map seen made ++ map value l) (sym (left-at i x (operation o) below at is)) ∙ so_far)))

  pub fragment-next : (i : ℕ) (x : D) (f : Fragment) (made : List B) → i < length ds → x ≡ get_or ds i x → view x ≡ fragment f →
      AreCountedTo i made → AreCountedTo (i + 1) made
  unfolding operations
  fragment-next i x f made below at is so_far = ap (λ l. map seen made ++ map value l) (sym (left-at i x (fragment f) below at is)) ∙ so_far

  pub counted-to-end : (i : ℕ) (made : List B) → length ds ≤ i → AreCountedTo i made → map seen made ≡ map value (operations (map view ds))
  unfolding operations
  counted-to-end i made past so_far =
      sym (append-nil (map seen made)) ∙ (ap (λ l. map seen made ++ map value (operations (map view l))) (sym (drop_all i ds past)) ∙ so_far)
