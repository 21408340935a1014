use Rattle.std.proofs.Common.{◌≡◌, [], length, map}
use Rattle.graphql_spec.specs.Documents.{Document}
use Rattle.juniper_schema.specs.SchemaView.{view_schema}
use Rattle.juniper_type_rules.specs.UsesView.{usage_of, view_used}
use Rattle.juniper_written.proofs.Lists.{IsSeenSoFar}
use Rattle.juniper_rules.specs.Listing.{AreListedOnTypes, definition_of}
use Rattle.juniper_rules.proofs.uses.used_by_each.Given as goal

-- what is listed, and then what the definitions that are left use
abbrev pub invariant-loop-one : goal.invariant-loop-one
invariant-loop-one g l =
    let shown = g.S.ScalarValue.shown in
    let s = view_schema shown l.schema in
    (length l.all.items ≡ l.one-index) × ((d : Document) → AreListedOnTypes shown s l.listed d →
    IsSeenSoFar (λ x. usage_of s (definition_of shown x.listed.now)) l.listed [] l.one-index (map view_used l.all.items))
