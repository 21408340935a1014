use Rattle.std.proofs.Common.{map, subst, sym, ◌∙◌}
use Rattle.std.proofs.lemmas.Result.{IfOk-weaker}
use Rattle.juniper_syntax.specs.RuleView.{view_rule_error}
use Rattle.juniper_schema.specs.SchemaView.{view_schema}
use Rattle.juniper_syntax.specs.DocumentView.{view_definition}
use Rattle.juniper_syntax.proofs.Lists.{none-seen, some-seen}
use Rattle.juniper_rules.specs.Listing.{AreListedOnTypes}
use Rattle.juniper_rules.proofs.Validating.{types-listed, uses-listed}
use Rattle.juniper_rules.proofs.validation.later_errors.Goals as goal

pub returns-then-not-is_empty : goal.returns-then-not-is_empty
returns-then-not-is_empty g c listed are no_names =
    let shown = g.S.ScalarValue.shown in
    let s = view_schema shown c.args.schema.now in
    let d = map (view_definition shown) c.args.document.now in
    let errors = c.in_ok-errors.errors in
    let on_types : AreListedOnTypes shown s c.deref.result.now d =
    subst (λ ls. AreListedOnTypes shown s ls d) (sym c.deref.ensures.value) (c.in_ok-on_types.ensures d listed) in
    types-listed s c.args.introspection_disabled d (map view_rule_error errors.items) (sym no_names)
    (c.in_ok-errors.ensures c.args.introspection_disabled d on_types)
    (some-seen view_rule_error errors.items errors.len errors.ok.0 c.if-not-is_empty.ensures)

pub returns : goal.returns
returns g c =
    let shown = g.S.ScalarValue.shown in
    let s = view_schema shown c.args.schema.now in
    let disabled = c.args.introspection_disabled in
    let d = map (view_definition shown) c.args.document.now in
    let errors = c.in_ok-errors.errors in
    let no_types = none-seen view_rule_error errors.items errors.len errors.ok.0 c.if-not-is_empty.ensures in
    IfOk-weaker c.use_errors.result _ _ (λ es found listed are no_names.
    let on_types = c.in_ok-on_types.ensures d listed in
    uses-listed s disabled d (map view_rule_error es.items) (sym no_names)
    (sym no_types ∙ c.in_ok-errors.ensures disabled d (subst (λ ls. AreListedOnTypes shown s ls d) (sym c.deref.ensures.value) on_types))
    (found d (subst (λ ls. AreListedOnTypes shown s ls d) (sym c.deref-2.ensures.value) on_types) are
    (c.deref-3.ensures.value ∙ c.in_ok-cannot_merge.ensures disabled are no_names))) c.use_errors.ensures
