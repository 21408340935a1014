-- Lists with an item for each definition, and what one uses with the fragments that it reaches.
use Rattle.std.proofs.Common.{◌≡◌, ℕ, Bool, false, ◌<◌, List, [], ◌∷◌, length, get_or, map, Bor, arith, refl, sym, ap, ◌∙◌}
use Rattle.std.proofs.lemmas.List.{get_or-map, length-map}
use Rattle.graphql_spec.specs.Shown.{Name}
use Rattle.graphql_spec.specs.Documents.{Definition, Document}
use Rattle.graphql_spec.specs.Fragments.{spreads}
use Rattle.graphql_spec.specs.Schema.{Schema}
use Rattle.graphql_spec.specs.Written.{selections_of}
use Rattle.juniper_type_rules.specs.UsesView.{AreUsesOfParts, Usage, usage_of, uses_reached, view_used_at}
use Rattle.juniper_type_rules.specs.declared.uses.Used.{Used}
use Rattle.juniper_written.proofs.Lists.{seen-twice}

seen-at : {A C : Type 0} (g : A → C) (xs : List A) (i : ℕ) (x : A) (e : C) → i < length xs → x ≡ get_or xs i x → get_or (map g xs) i e ≡ g x
seen-at g xs i x e below is = get_or-map g xs i x e below ∙ ap g (sym is)

module _ {A B C : Type 0} (view : A → B) (f : B → C) (xs : List A) (i : ℕ) (x : A) (below : i < length xs) (is : x ≡ get_or xs i x) where
  twice-at : (e : C) → get_or (map f (map view xs)) i e ≡ f (view x)
  twice-at e =
      let inside : i < length (map view xs) = omega (arith, below, length-map xs view) in
      get_or-map f (map view xs) i (view x) e inside ∙ ap f (seen-at view xs i x (view x) below is)

  -- the item beside a definition
  pub beside-is : {D : Type 0} (g : D → C) (us : List D) (u : D) → map g us ≡ map f (map view xs) → i < length us → u ≡ get_or us i u → g u ≡ f (view x)
  beside-is g us u same within at =
      sym (seen-at g us i u (g u) within at) ∙ (ap (λ l. get_or l i (g u)) same ∙ twice-at (g u))

-- the mark beside a definition
pub mark-is : {A B : Type 0} (view : A → B) (f : B → Bool) (xs : List A) (i : ℕ) (x : A) → i < length xs → x ≡ get_or xs i x → (marks : List Bool) →
    marks ≡ map f (map view xs) → get_or marks i false ≡ f (view x)
mark-is view f xs i x below is marks same = ap (λ l. get_or l i false) same ∙ twice-at view f xs i x below is false

-- lists that are made of definitions
module _ {A L D : Type 0} (view : A → L) (own : L → D) (of : D → L) (own-of : (x : D) → own (of x) ≡ x) where
  own-all : (d : List D) → map own (map of d) ≡ d
  own-all [] = refl
  own-all (x ∷ d) = ap (λ l. own (of x) ∷ l) (own-all d) ∙ ap (λ y. y ∷ d) (own-of x)

  -- they are made of these
  pub own-are : (xs : List A) (d : List D) → map view xs ≡ map of d → map (λ a. own (view a)) xs ≡ d
  own-are xs d same = seen-twice view own xs ∙ (ap (map own) same ∙ own-all d)

  -- one is made of its own
  pub own-at : (xs : List A) (d : List D) → map view xs ≡ map of d → (i : ℕ) (x : A) → i < length xs → x ≡ get_or xs i x → view x ≡ of (own (view x))
  own-at xs d same i x below is =
      let again : map (λ a. of (own (view a))) xs ≡ map view xs =
      seen-twice (λ a. own (view a)) of xs ∙ (ap (map of) (own-are xs d same) ∙ sym same) in
      sym (seen-at view xs i x (view x) below is) ∙ (ap (λ l. get_or l i (view x)) (sym again)
      ∙ seen-at (λ a. of (own (view a))) xs i x (view x) below is)

-- what a definition uses, and the fragments that its spreads reach, is what an operation and its fragments use
pub parts-are : (s : Schema) (us : List (Bor Used)) (d : Document) (x : Definition) (own : Usage) (names : List Name) →
    names ≡ spreads (selections_of x) → own ≡ usage_of s x → view_used_at us ≡ own ∷ uses_reached s d names → AreUsesOfParts s us d x
unfolding selections_of
parts-are s us d x own names same at_own reaches = λ o is. reaches ∙ (ap (λ u. u ∷ uses_reached s d names) at_own
    ∙ ap (λ ns. usage_of s x ∷ uses_reached s d ns) (same ∙ ap (λ y. spreads (selections_of y)) is))
