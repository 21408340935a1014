-- What the rules look at in each definition, listed once for all of them (5).
use Rattle.std.specs.Prelude.{◌≡◌, List, map}
use Rattle.graphql_spec.specs.Shown.{Shown}
use Rattle.graphql_spec.specs.Documents.{Argument, Definition, Document}
use Rattle.graphql_spec.specs.Placed.{Call, calls}
use Rattle.graphql_spec.specs.Schema.{Schema}
use Rattle.graphql_spec.specs.Written.{argument_lists}
use Rattle.juniper_type_rules.specs.CallView.{view_calls}
use Rattle.juniper_type_rules.specs.PlacedView.{view_parts}
use Rattle.juniper_type_rules.specs.Placing as placing
use Rattle.juniper_syntax.specs.DocumentView.{view_definition}
use Rattle.juniper_written.specs.Parts as parts
use Rattle.juniper_written.specs.WrittenView.{view_lists, view_written}
use Rattle.juniper_rules.specs.declared.lists.Listed.{Listed}
use Rattle.juniper_rules.specs.declared.lists.ListedOnTypes.{ListedOnTypes}

-- a definition, what is written in it, and the arguments of its fields and directives
pub record Listing : Type 0 where
  pub definition : Definition
  pub written : parts.Parts
  pub arguments : List (List Argument)

unfoldable pub listing_of : Definition → Listing
listing_of x = record { definition = x; written = parts.parts_of x; arguments = argument_lists x }

-- the same with its fields and directives on types that are known, and their arguments with the declarations
pub record PlacedListing : Type 0 where
  pub listing : Listing
  pub placed : placing.Parts
  pub calls : List Call

unfoldable pub placed_listing_of : Schema → Definition → PlacedListing
placed_listing_of s x = record { listing = listing_of x; placed = placing.parts_of s x; calls = calls s x }

module _ {S : Type 0} (shown : S → Shown) where
  -- the definition itself
  abbrev pub definition_of : Listed S → Definition
  definition_of l = view_definition shown l.definition.now

  abbrev pub view_listed : Listed S → Listing
  view_listed l = record { definition = definition_of l; written = view_written shown l.written; arguments = view_lists shown l.arguments }

  abbrev pub view_listed_on_types : ListedOnTypes S → PlacedListing
  view_listed_on_types l = record { listing = view_listed l.listed.now; placed = view_parts shown l.placed; calls = view_calls shown l.calls.items }

  -- what is listed is a definition's own
  abbrev pub IsListed : Listed S → Type 0
  IsListed l = view_listed l ≡ listing_of (definition_of l)

  abbrev pub IsListedOnTypes : Schema → ListedOnTypes S → Type 0
  IsListedOnTypes s l = view_listed_on_types l ≡ placed_listing_of s (definition_of l.listed.now)

  -- they are the definitions of a document, in order, each with what is listed of it
  abbrev pub AreListed : List (Listed S) → Document → Type 0
  AreListed ls d = map view_listed ls ≡ map listing_of d

  abbrev pub AreListedOnTypes : Schema → List (ListedOnTypes S) → Document → Type 0
  AreListedOnTypes s ls d = map view_listed_on_types ls ≡ map (placed_listing_of s) d
