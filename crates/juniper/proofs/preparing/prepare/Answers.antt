use Rattle.std.proofs.Common.{◌≡◌, ◌==◌, map, refl, sym, ap, subst, ◌∙◌}
use Rattle.std.proofs.lemmas.Grind.{merely}
use Rattle.graphql_spec.specs.Rules.{rule_errors}
use Rattle.juniper_intro.specs.RootView.{is_disabled, schema_of}
use Rattle.juniper_syntax.specs.RuleView.{view_rule_error}
use Rattle.juniper_schema.specs.SchemaView.{view_schema}
use Rattle.juniper_syntax.specs.DocumentView.{view_document}
use Rattle.juniper.specs.Answering.{StandsFor}
use Rattle.juniper.specs.Objections.{IsRefusal}
use Rattle.juniper.specs.RequestErrors.{view_request_error}
use Rattle.juniper.proofs.Composing.{none-found}
use Rattle.juniper.proofs.Objecting.{broken-stands, reading-objects}
use Rattle.juniper.proofs.preparing.prepare.Goals as goal

pub returns-in-Err : goal.returns-in-Err
returns-in-Err g c = reading-objects c.args.bounds.now c.args.text.now (view_schema g.S.ScalarValue.shown (schema_of c.args.root.now))
    (is_disabled c.args.root.now) c.in-Err.objection c.in-Err.ensures

pub returns-in-Err-validate : goal.returns-in-Err-validate
returns-in-Err-validate g c = (c.in-Ok.ensures.0.0, tt)

pub invariant_of-result-clause-reads : goal.invariant_of-result-clause-reads
invariant_of-result-clause-reads g c = merely c.in-Ok.ensures.0.1

pub invariant_of-result-clause-valid : goal.invariant_of-result-clause-valid
invariant_of-result-clause-valid g c =
    let shown = g.S.ScalarValue.shown in
    let s = view_schema shown (schema_of c.args.root.now) in
    let d = view_document shown c.in-Ok.document in
    let es = c.in-Ok-validate.errors.items in
    let seen : map view_rule_error es ≡ rule_errors s (is_disabled c.args.root.now) d =
    subst (λ b. map view_rule_error es ≡ rule_errors s b d) c.is_introspection_disabled.ensures
    (subst (λ x. map view_rule_error es ≡ rule_errors x c.is_introspection_disabled.result d) (ap (view_schema shown) c.schema.ensures)
    c.in-Ok-validate.ensures) in
    none-found es c.is_empty.result (c.is_empty.ensures ∙ ap (λ n. n == 0) c.in-Ok-validate.errors.ok.0)
    (rule_errors s (is_disabled c.args.root.now) d) seen c.if-is_empty.true

pub returns-then-is_empty : goal.returns-then-is_empty
returns-then-is_empty g c =
    let shown = g.S.ScalarValue.shown in
    let s = view_schema shown (schema_of c.args.root.now) in
    let d = view_document shown c.in-Ok.document in
    let es = c.in-Ok-validate.errors.items in
    let seen : map view_rule_error es ≡ rule_errors s (is_disabled c.args.root.now) d =
    subst (λ b. map view_rule_error es ≡ rule_errors s b d) c.is_introspection_disabled.ensures
    (subst (λ x. map view_rule_error es ≡ rule_errors x c.is_introspection_disabled.result d) (ap (view_schema shown) c.schema.ensures)
    c.in-Ok-validate.ensures) in (
      refl,
      refl,
      (
        c.in-Ok.ensures,
        none-found es c.is_empty.result (c.is_empty.ensures ∙ ap (λ n. n == 0) c.in-Ok-validate.errors.ok.0)
            (rule_errors s (is_disabled c.args.root.now) d) seen c.if-is_empty.true,
      ),
    )

pub returns : goal.returns
returns g c =
    let shown = g.S.ScalarValue.shown in
    let s = view_schema shown (schema_of c.args.root.now) in
    let d = view_document shown c.in-Ok.document in
    let es = c.in-Ok-validate.errors.items in
    let P = IsRefusal c.args.bounds.now c.args.text.now s (is_disabled c.args.root.now) in
    let seen : map view_rule_error es ≡ rule_errors s (is_disabled c.args.root.now) d =
    subst (λ b. map view_rule_error es ≡ rule_errors s b d) c.is_introspection_disabled.ensures
    (subst (λ x. map view_rule_error es ≡ rule_errors x c.is_introspection_disabled.result d) (ap (view_schema shown) c.schema.ensures)
    c.in-Ok-validate.ensures) in (
      c.in-Ok.ensures.0.0,
      subst (λ e. StandsFor P (view_request_error e)) (sym c.from.ensures)
          (broken-stands c.args.bounds.now c.args.text.now s (is_disabled c.args.root.now) d c.in-Ok.ensures es c.is_empty.result
          (c.is_empty.ensures ∙ ap (λ n. n == 0) c.in-Ok-validate.errors.ok.0) c.if-is_empty.false seen),
    )
