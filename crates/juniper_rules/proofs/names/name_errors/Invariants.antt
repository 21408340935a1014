use Rattle.std.proofs.Common.{Bool, map, take}
use Rattle.graphql_spec.specs.Rules.{name_errors}
use Rattle.juniper_written.specs.NamesBefore.{IsEarlier}
use Rattle.juniper_syntax.specs.RuleView.{view_rule_error}
use Rattle.juniper_schema.specs.SchemaView.{view_schema}
use Rattle.juniper_written.specs.SpreadsView.{AreFragmentsOf}
use Rattle.juniper_syntax.specs.DocumentView.{view_definition}
use Rattle.juniper_rules.specs.Listing.{AreListed, definition_of}
use Rattle.juniper_rules.proofs.AtEach.{IsFoundBefore}
use Rattle.juniper_rules.proofs.names.name_errors.Given as goal

-- what is found, and then what the definitions that are left show behind the earlier ones
abbrev pub invariant-loop-one : goal.invariant-loop-one
invariant-loop-one g l =
    let shown = g.S.ScalarValue.shown in
    let d = map (view_definition shown) l.document in
    IsEarlier l.earlier (map (definition_of shown) (take l.one-index l.listed))
    × ((disabled : Bool) → AreListed shown l.listed d → AreFragmentsOf shown l.fragments d → IsFoundBefore (definition_of shown)
    (name_errors (view_schema shown l.schema) disabled d) l.listed l.one-index (map view_rule_error l.errors.items))
