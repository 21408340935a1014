use Rattle.std.proofs.Common.{[], map}
use Rattle.graphql_spec.specs.Documents.{Document}
use Rattle.juniper_schema.specs.SchemaView.{view_schema}
use Rattle.juniper_written.proofs.Lists.{IsSeenSoFar}
use Rattle.juniper_rules.specs.Listing.{AreListed, definition_of, placed_listing_of, view_listed_on_types}
use Rattle.juniper_rules.proofs.lists.listed_on_types.Given as goal

-- what is listed, and then what is listed of the definitions that are left
abbrev pub invariant-loop-one : goal.invariant-loop-one
invariant-loop-one g l =
    let shown = g.S.ScalarValue.shown in
    (d : Document) → AreListed shown l.listed d → IsSeenSoFar (λ x. placed_listing_of (view_schema shown l.schema) (definition_of shown x))
    l.listed [] l.one-index (map (view_listed_on_types shown) l.all.items)
