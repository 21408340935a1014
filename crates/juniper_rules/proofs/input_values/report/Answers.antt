use Rattle.std.proofs.Common.{ap, sym, ◌∙◌, map, [], ◌∷◌}
use Rattle.std.proofs.lemmas.List.{map-append}
use Rattle.graphql_spec.specs.Requests.{no_fitting_value}
use Rattle.juniper_syntax.specs.RuleView.{view_rule_error}
use Rattle.juniper_schema.specs.SchemaView.{view_schema}
use Rattle.juniper_syntax.specs.DocumentView.{view_variable}
use Rattle.juniper_rules.specs.GivenView.{view_given_values}
use Rattle.juniper_rules.proofs.Misfits.{misfit-listed}
use Rattle.juniper_rules.proofs.input_values.report.Goals as goal

pub returns-in_ok-push : goal.returns-in_ok-push
unfolding no_fitting_value
returns-in_ok-push g c =
    let shown = g.S.ScalarValue.shown in
    let s = view_schema shown c.args.schema.now in
    let given = view_given_values shown c.args.given.now in
    misfit-listed s given (view_variable shown c.args.variable.now) (map view_rule_error c.args.errors.now.items) (map view_rule_error c.push.new.self.items)
    (view_rule_error c.in_ok-new.field-0)
    (sym c.in_ok-is_fitting.ensures ∙ c.if-not-branch.true)
    (c.in_ok-new.ensures ∙ ap (λ m. record { message = m; start = (view_variable shown c.args.variable.now).name.span.start })
    (c.as_str.ensures.value ∙ c.in_ok-message.ensures.ok))
    (ap (map view_rule_error) c.in_ok-push.ensures.items ∙ map-append view_rule_error c.args.errors.now.items (c.in_ok-new.field-0 ∷ []))
