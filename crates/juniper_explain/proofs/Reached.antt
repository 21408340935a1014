-- An operation and the fragments that it reaches, of the definitions of a document.
use Rattle.std.proofs.Common.{◌≡◌, Bool, true, false, cond, List, [], ◌∷◌, ◌++◌, map, filter, refl, sym, ap, ◌∙◌}
use Rattle.std.specs.List.{flat_map}
use Rattle.graphql_spec.specs.Shown.{Name, Shown}
use Rattle.graphql_spec.specs.Documents.{Definition, operation, fragment, Document, Fragment, Operation, fragments}
use Rattle.graphql_spec.specs.Schema.{Schema}
use Rattle.graphql_spec.specs.VariableUses.{as_definitions, is_reached, parts, reached}
use Rattle.graphql_spec.specs.Fragments.{spreads}
use Rattle.juniper_rules.specs.Listing.{AreListedOnTypes, PlacedListing, definition_of, listing_of, placed_listing_of, view_listed_on_types}
use Rattle.juniper_rules.specs.declared.lists.ListedOnTypes.{ListedOnTypes}
use Rattle.juniper_written.proofs.Lists.{flat-seen}
use Rattle.juniper_explain.specs.Parts.{where_reached}

module _ {A : Type 0} (h : Definition → A) where
  one-reached : (f : Fragment) (b c : Bool) → b ≡ c → (rest : List A) (fs : List Fragment) → rest ≡ map h (as_definitions fs) →
      cond b (h (fragment f) ∷ []) [] ++ rest ≡ map h (as_definitions (cond c (f ∷ fs) fs))
  unfolding as_definitions
  one-reached f true true same rest fs is = ap (λ l. h (fragment f) ∷ l) is
  one-reached f false false same rest fs is = is
  one-reached f true false same rest fs is = absurd (cc same)
  one-reached f false true same rest fs is = absurd (cc same)

  -- what is known of the fragments that are reached
  pub reached-are : (test is : Name → Bool) → ((n : Name) → test n ≡ is n) → (d : Document) →
      flat_map (λ y. where_reached test y (h y)) d ≡ map h (as_definitions (filter (λ f. is f.name.item) (fragments d)))
  unfolding where_reached fragments as_definitions
  reached-are test is same [] = refl
  reached-are test is same (operation o ∷ d) = reached-are test is same d
  reached-are test is same (fragment f ∷ d) = one-reached f (test f.name.item) (is f.name.item) (same f.name.item) _
      (filter (λ (g : Fragment). is g.name.item) (fragments d)) (reached-are test is same d)

module _ {S : Type 0} (shown : S → Shown) (test : Name → Bool) where
  -- what is listed of a fragment of a name that passes the test
  abbrev pub reached_part : ListedOnTypes S → List PlacedListing
  reached_part p = where_reached test (definition_of shown p.listed.now) (view_listed_on_types shown p)

  -- what is listed of an operation, and of the fragments that it reaches
  pub parts-are : (s : Schema) (ps : List (ListedOnTypes S)) (d : Document) (o : Operation) → AreListedOnTypes shown s ps d →
      ((n : Name) → test n ≡ is_reached (fragments d) (spreads o.selections) n) →
      placed_listing_of s (operation o) ∷ flat_map reached_part ps ≡ map (placed_listing_of s) (parts d o)
  unfolding placed_listing_of listing_of parts reached
  parts-are s ps d o are same =
      let found : PlacedListing → List PlacedListing = λ l. where_reached test l.listing.definition l in
      ap (λ l. placed_listing_of s (operation o) ∷ l)
      (flat-seen (view_listed_on_types shown) found ps ∙ (ap (flat_map found) are
      ∙ (sym (flat-seen (placed_listing_of s) found d)
      ∙ reached-are (placed_listing_of s) test (is_reached (fragments d) (spreads o.selections)) same d)))

module _ {A : Type 0} (test : Name → Bool) (f : Fragment) (a : A) where
  -- a fragment of a name that passes, and of one that does not
  pub passes : test f.name.item ≡ true → a ∷ [] ≡ where_reached test (fragment f) a
  unfolding where_reached
  passes is = sym (ap (λ b. cond b (a ∷ []) []) is)

  pub fails : test f.name.item ≡ false → [] ≡ where_reached test (fragment f) a
  unfolding where_reached
  fails is = sym (ap (λ b. cond b (a ∷ []) []) is)
