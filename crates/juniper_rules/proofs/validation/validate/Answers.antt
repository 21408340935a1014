use Rattle.std.proofs.Common.{◌≡◌, [], map, sym, ap, subst, ◌∙◌}
use Rattle.std.proofs.lemmas.Result.{IfOk-weaker}
use Rattle.graphql_spec.specs.Rules.{rule_errors}
use Rattle.juniper_syntax.specs.RuleView.{view_rule_error}
use Rattle.juniper_schema.specs.SchemaView.{view_schema}
use Rattle.juniper_written.specs.SpreadsView.{AreFragmentsOf}
use Rattle.juniper_syntax.specs.DocumentView.{view_definition}
use Rattle.juniper_syntax.proofs.Lists.{none-seen, some-seen}
use Rattle.juniper_rules.specs.Listing.{AreListed}
use Rattle.juniper_rules.proofs.Validating.{names-listed}
use Rattle.juniper_rules.proofs.validation.validate.Goals as goal

pub returns-then-not-is_empty : goal.returns-then-not-is_empty
returns-then-not-is_empty g c =
    let shown = g.S.ScalarValue.shown in
    let s = view_schema shown c.args.schema.now in
    let disabled = c.args.introspection_disabled in
    let d = map (view_definition shown) c.as_slice-definitions.result.now in
    let found = map view_rule_error c.in_ok-errors.errors.items in
    let are : AreFragmentsOf shown c.in_ok-fragments.fragments d = c.in_ok-fragments.ensures in
    let listed : AreListed shown c.deref.result.now d =
    subst (λ ls. AreListed shown ls d) (sym c.deref.ensures.value) c.in_ok-listed.ensures in
    let some : found ≡ [] → ⊥ = some-seen view_rule_error c.in_ok-errors.errors.items c.in_ok-errors.errors.len c.in_ok-errors.errors.ok.0
    c.if-not-is_empty.ensures in
    subst (λ x. found ≡ rule_errors s disabled x) (ap (map (view_definition shown)) c.as_slice-definitions.ensures.value)
    (names-listed s disabled d found (c.in_ok-errors.ensures disabled listed are) some)

pub returns : goal.returns
returns g c =
    let shown = g.S.ScalarValue.shown in
    let s = view_schema shown c.args.schema.now in
    let disabled = c.args.introspection_disabled in
    let d = map (view_definition shown) c.as_slice-definitions.result.now in
    let errors = c.in_ok-errors.errors in
    let are : AreFragmentsOf shown c.in_ok-fragments.fragments d = c.in_ok-fragments.ensures in
    let listed : AreListed shown c.deref.result.now d =
    subst (λ ls. AreListed shown ls d) (sym c.deref.ensures.value) c.in_ok-listed.ensures in
    let none = none-seen view_rule_error errors.items errors.len errors.ok.0 c.if-not-is_empty.ensures in
    let again : AreListed shown c.deref-2.result.now d =
    subst (λ ls. AreListed shown ls d) (sym c.deref-2.ensures.value) c.in_ok-listed.ensures in
    IfOk-weaker c.later_errors.result _ _ (λ es found.
    subst (λ x. map view_rule_error es.items ≡ rule_errors s disabled x) (ap (map (view_definition shown)) c.as_slice-definitions.ensures.value)
    (found again are (sym (c.in_ok-errors.ensures disabled listed are) ∙ none))) c.later_errors.ensures
