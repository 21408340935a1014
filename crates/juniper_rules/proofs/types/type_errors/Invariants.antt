use Rattle.std.proofs.Common.{Bool, map}
use Rattle.graphql_spec.specs.Documents.{Document}
use Rattle.graphql_spec.specs.Rules.{type_errors}
use Rattle.juniper_syntax.specs.RuleView.{view_rule_error}
use Rattle.juniper_schema.specs.SchemaView.{view_schema}
use Rattle.juniper_rules.specs.Listing.{AreListedOnTypes, definition_of}
use Rattle.juniper_rules.proofs.AtEach.{IsFoundBefore}
use Rattle.juniper_rules.proofs.types.type_errors.Given as goal

-- what is found, and then what the definitions that are left show
abbrev pub invariant-loop-one : goal.invariant-loop-one
invariant-loop-one g l =
    let shown = g.S.ScalarValue.shown in
    let s = view_schema shown l.schema in
    (disabled : Bool) (d : Document) → AreListedOnTypes shown s l.listed d → IsFoundBefore (λ x. definition_of shown x.listed.now)
    (type_errors s disabled d) l.listed l.one-index (map view_rule_error l.errors.items)
