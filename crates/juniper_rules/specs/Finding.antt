-- What the phases of rules find: errors, definition by definition (5).
use Rattle.std.specs.Prelude.{◌≡◌, ◌++◌, ℕ, Bool, List, [], map}
use Rattle.std.specs.declared.cmp.PartialEq.{Ghosts as Equality}
use Rattle.std.specs.declared.fmt.Debug.{Ghosts as Shows}
use Rattle.graphql_spec.specs.Shown.{Shown}
use Rattle.graphql_spec.specs.Documents.{Definition, Document, VariableDefinition}
use Rattle.graphql_spec.specs.Inputs.{Variables}
use Rattle.graphql_spec.specs.Requests.{variable_errors}
use Rattle.graphql_spec.specs.Rules as rules
use Rattle.graphql_spec.specs.Rules.{at_each, rule_errors}
use Rattle.graphql_spec.specs.Schema.{Schema}
use Rattle.graphql_spec.specs.ValidityLaws.{HasGoodNames}
use Rattle.juniper_syntax.specs.RuleView.{view_rule_error}
use Rattle.juniper_syntax.specs.declared.rule.RuleError.{RuleError}
use Rattle.juniper_syntax.specs.declared.scalar.ScalarValue.{Ghosts as Scalars}
use Rattle.juniper_schema.specs.SchemaView.{view_schema}
use Rattle.juniper_written.specs.NamesBefore.{IsEarlier}
use Rattle.juniper_written.specs.SpreadsView.{AreFragmentsOf}
use Rattle.juniper_written.specs.declared.by_name.FragmentsByName.{FragmentsByName}
use Rattle.juniper_written.specs.declared.earlier.Earlier.{Earlier}
use Rattle.juniper_type_rules.specs.UsesView.{AreUsesOfFragments, usage_of, view_used}
use Rattle.juniper_type_rules.specs.declared.uses.Used.{Used}
use Rattle.juniper_rules.specs.Listing.{AreListed, IsListed, IsListedOnTypes, definition_of}
use Rattle.juniper_rules.specs.Operations.{OperationsOf}
use Rattle.juniper_rules.specs.declared.lists.Listed.{Listed}
use Rattle.juniper_rules.specs.declared.lists.ListedOnTypes.{ListedOnTypes}
use Rattle.juniper_rules.specs.declared.uses.Surroundings.{Surroundings}

-- ## Whole phases

-- the errors are those that the rules on names find
abbrev pub AreNameErrors : Schema → Bool → Document → List RuleError → Type 0
AreNameErrors s disabled d es = map view_rule_error es ≡ at_each (rules.name_errors s disabled d) [] d

-- where these definitions have fields that cannot be merged, the errors are those that the rules on uses find
abbrev pub AreUseErrors : Schema → Bool → Document → List Bool → List RuleError → Type 0
AreUseErrors s disabled d merged es = merged ≡ map (rules.cannot_merge s d) d → map view_rule_error es ≡ at_each (rules.use_errors s disabled d) [] d

-- where the rules on names find nothing, the errors are those of all rules
abbrev pub AreLaterErrors : Schema → Bool → Document → List RuleError → Type 0
AreLaterErrors s disabled d es = HasGoodNames s disabled d → map view_rule_error es ≡ rule_errors s disabled d

-- ## At one definition

-- behind the errors that were there stand those that are found
abbrev pub Reports : List RuleError → List RuleError → List rules.RuleError → Type 0
Reports old new found = map view_rule_error new ≡ map view_rule_error old ++ found

-- behind the new errors, those of the rest of variables without a fitting value are what those of all are behind the old ones (6.1.2)
abbrev pub ReportsBefore : List RuleError → List RuleError → Schema → Variables → List VariableDefinition → List VariableDefinition → Type 0
ReportsBefore old new s given rest all = map view_rule_error new ++ variable_errors s rest given ≡ map view_rule_error old ++ variable_errors s all given

module _ {S : Type 0} (shown : S → Shown) where
  -- where this is listed of a document with these fragments, this follows
  abbrev pub WhereListed : List (Listed S) → FragmentsByName S → Document → Type 0 → Type 0
  WhereListed ls r d conclusion = AreListed shown ls d → AreFragmentsOf shown r d → conclusion

  -- where a document has these fragments and so many operations, and these names stand in its definitions before one, this follows
  abbrev pub WhereBehind : FragmentsByName S → ℕ → Earlier → Document → List Definition → Type 0 → Type 0
  WhereBehind r n e d before conclusion = AreFragmentsOf shown r d → OperationsOf n d → IsEarlier e before → conclusion

  -- where what is listed is a definition's own, the errors that the rules on names find at it, behind those before, are reported
  abbrev pub ReportsNames : Schema → Bool → Document → List Definition → Listed S → List RuleError → List RuleError → Type 0
  ReportsNames s disabled d before l old new = IsListed shown l → Reports old new (rules.name_errors s disabled d before (definition_of shown l))

  -- the same of the rules on types
  abbrev pub ReportsTypes : Schema → Bool → Document → List Definition → ListedOnTypes S → List RuleError → List RuleError → Type 0
  ReportsTypes s disabled d before l old new = IsListedOnTypes shown s l →
      Reports old new (rules.type_errors s disabled d before (definition_of shown l.listed.now))

module _ {S : Type 0} {scalar : Scalars S} {equality : Equality S} {shows : Shows S} (shown : S → Shown) (g : Surroundings S scalar equality shows) where
  -- the schema beside a definition
  abbrev pub schema_beside : Schema
  schema_beside = view_schema shown g.schema.now

  -- where the uses of fragments are a document's, what is listed is a definition's own, and this is what it uses by itself, this follows
  abbrev pub WhereUsed : Document → Listed S → Used → Type 0 → Type 0
  WhereUsed d l own conclusion = AreUsesOfFragments schema_beside g.used_by_fragments.now d → IsListed shown l →
      view_used own ≡ usage_of schema_beside (definition_of shown l) → conclusion

  -- where it is known whether fields of the definition cannot be merged, the errors that the rules on uses find at it are reported
  abbrev pub ReportsUses : Document → List Definition → Listed S → Bool → List RuleError → List RuleError → Type 0
  ReportsUses d before l unmerged old new = unmerged ≡ rules.cannot_merge schema_beside d (definition_of shown l) →
      Reports old new (rules.use_errors schema_beside g.introspection_disabled d before (definition_of shown l))
