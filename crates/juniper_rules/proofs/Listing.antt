-- What is listed of the definitions of a document.
use Rattle.std.proofs.Common.{◌≡◌, ℕ, ◌<◌, List, length, get_or, map, refl, ap}
use Rattle.graphql_spec.specs.Shown.{Shown}
use Rattle.graphql_spec.specs.Documents.{Argument, Definition, Document}
use Rattle.graphql_spec.specs.Placed.{Call, calls}
use Rattle.graphql_spec.specs.Schema.{Schema}
use Rattle.graphql_spec.specs.Written.{argument_lists}
use Rattle.juniper_type_rules.specs.CallView.{view_calls}
use Rattle.juniper_type_rules.specs.PlacedView.{view_parts}
use Rattle.juniper_type_rules.specs.Placing as placing
use Rattle.juniper_written.specs.Parts.{Parts, lists_of, parts_of}
use Rattle.juniper_written.specs.WrittenView.{view_lists, view_written}
use Rattle.juniper_rules.specs.Listing.{AreListed, AreListedOnTypes, IsListed, IsListedOnTypes, Listing, PlacedListing, definition_of, listing_of}
use Rattle.juniper_rules.specs.Listing.{placed_listing_of, view_listed, view_listed_on_types}
use Rattle.juniper_rules.specs.declared.lists.Listed.{Listed}
use Rattle.juniper_rules.specs.declared.lists.ListedOnTypes.{ListedOnTypes}
use Rattle.juniper_rules.proofs.SideBySide.{own-are, own-at}

-- what is listed of a definition, from what its calls answer
pub listing-is : (x : Definition) (p : Parts) (as' : List (List Argument)) → p ≡ parts_of x → as' ≡ lists_of p →
    (let l : Listing = record { definition = x; written = p; arguments = as' } in l ≡ listing_of x)
unfolding listing_of parts_of lists_of argument_lists
listing-is x p as' is are = rw (are) (rw (is) refl)

pub placed-listing-is : (s : Schema) (x : Definition) (l : Listing) (p : placing.Parts) (cs : List Call) → l ≡ listing_of x → p ≡ placing.parts_of s x →
    cs ≡ placing.calls_of s p → (let r : PlacedListing = record { listing = l; placed = p; calls = cs } in r ≡ placed_listing_of s x)
unfolding placed_listing_of placing.parts_of placing.calls_of calls
placed-listing-is s x l p cs listed is are = rw (are) (rw (is) (rw (listed) refl))

-- the definition that they are listed of
listed-of : (x : Definition) → (listing_of x).definition ≡ x
unfolding listing_of
listed-of x = refl

placed-of : (s : Schema) (x : Definition) → (placed_listing_of s x).listing.definition ≡ x
unfolding placed_listing_of listing_of
placed-of s x = refl

module _ {S : Type 0} (shown : S → Shown) where
  -- the definitions of which they are listed, in order
  pub definitions-are : (ls : List (Listed S)) (d : Document) → AreListed shown ls d → map (definition_of shown) ls ≡ d
  definitions-are ls d are = own-are (view_listed shown) (λ l. l.definition) listing_of listed-of ls d are

  pub listed-at : (ls : List (Listed S)) (d : Document) → AreListed shown ls d → (i : ℕ) (l : Listed S) → i < length ls → l ≡ get_or ls i l →
      IsListed shown l
  listed-at ls d are i l below is = own-at (view_listed shown) (λ l. l.definition) listing_of listed-of ls d are i l below is

  -- what is listed of one
  pub written-is : (l : Listed S) → IsListed shown l → view_written shown l.written ≡ parts_of (definition_of shown l)
  unfolding listing_of
  written-is l is = ap (λ r. r.written) is

  pub arguments-are : (l : Listed S) → IsListed shown l → view_lists shown l.arguments ≡ argument_lists (definition_of shown l)
  unfolding listing_of
  arguments-are l is = ap (λ r. r.arguments) is

  module _ (s : Schema) where
    -- the same on types
    pub definitions-on-types : (ls : List (ListedOnTypes S)) (d : Document) → AreListedOnTypes shown s ls d →
        map (λ l. definition_of shown l.listed.now) ls ≡ d
    definitions-on-types ls d are = own-are (view_listed_on_types shown) (λ l. l.listing.definition) (placed_listing_of s) (placed-of s) ls d are

    pub on-types-at : (ls : List (ListedOnTypes S)) (d : Document) → AreListedOnTypes shown s ls d → (i : ℕ) (l : ListedOnTypes S) → i < length ls →
        l ≡ get_or ls i l → IsListedOnTypes shown s l
    on-types-at ls d are i l below is =
        own-at (view_listed_on_types shown) (λ r. r.listing.definition) (placed_listing_of s) (placed-of s) ls d are i l below is

    pub listed-is : (l : ListedOnTypes S) → IsListedOnTypes shown s l → IsListed shown l.listed.now
    unfolding placed_listing_of
    listed-is l is = ap (λ r. r.listing) is

    pub placed-is : (l : ListedOnTypes S) → IsListedOnTypes shown s l → view_parts shown l.placed ≡ placing.parts_of s (definition_of shown l.listed.now)
    unfolding placed_listing_of
    placed-is l is = ap (λ r. r.placed) is

    pub calls-are : (l : ListedOnTypes S) → IsListedOnTypes shown s l → view_calls shown l.calls.items ≡ calls s (definition_of shown l.listed.now)
    unfolding placed_listing_of
    calls-are l is = ap (λ r. r.calls) is
