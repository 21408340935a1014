-- What is listed of an operation and of the fragments that it reaches (5.8.3); only private clauses cite this file.
use Rattle.std.specs.Prelude.{Bool, cond, List, [], ◌∷◌, map}
use Rattle.std.specs.Borrow.{Bor}
use Rattle.graphql_spec.specs.Shown.{Name, Shown}
use Rattle.graphql_spec.specs.Documents.{Definition, operation, fragment}
use Rattle.juniper_rules.specs.Listing.{PlacedListing, view_listed_on_types}
use Rattle.juniper_rules.specs.declared.lists.ListedOnTypes.{ListedOnTypes}

-- what is known of a definition, where it is a fragment of a name that passes the test
unfoldable pub where_reached : {A : Type 0} → (Name → Bool) → Definition → A → List A
where_reached test (operation o) a = []
where_reached test (fragment f) a = cond (test f.name.item) (a ∷ []) []

abbrev pub view_each : {S : Type 0} → (S → Shown) → List (Bor (ListedOnTypes S)) → List PlacedListing
view_each shown = map (λ p. view_listed_on_types shown p.now)
