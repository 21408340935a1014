use Rattle.std.proofs.Common.{map, ap, sym, ◌∙◌}
use Rattle.std.proofs.lemmas.Simd.{map-map}
use Rattle.juniper.specs.RequestErrors.{view_request_error}
use Rattle.juniper_explain.specs.GivenValues.{view_variable_explanation}
use Rattle.juniper_json.specs.RefusalText.{view_refusal}
use Rattle.juniper_schema.specs.SchemaView.{view_schema}
use Rattle.juniper_syntax.specs.DocumentView.{view_operation}
use Rattle.juniper_syntax.specs.InputView.{view_variables}
use Rattle.juniper_syntax.specs.RuleView.{view_rule_error}
use Rattle.juniper_syntax.specs.Scalars.{default_shown}
use Rattle.juniper_endpoint.proofs.Explaining.{chosen-misfits, unchosen-fit}
use Rattle.juniper_endpoint.specs.Explained.{of_value}
use Rattle.juniper_endpoint.proofs.values.misfits_in.Goals as goal

pub returns-in-Err : goal.returns-in-Err
returns-in-Err c =
    let s = view_schema default_shown c.args.explainer.now.schema.now in
    let given = view_variables default_shown c.args.values.now in
    let errors = map view_rule_error c.args.errors.now in
    ap (map view_refusal) c.new.ensures.items ∙ unchosen-fit s given errors _ (view_request_error c.in-Err.field-0) c.in-Err.ensures

pub returns : goal.returns
returns c =
    let s = view_schema default_shown c.args.explainer.now.schema.now in
    let given = view_variables default_shown c.args.values.now in
    let errors = map view_rule_error c.args.errors.now in
    c.in_ok-refusals.ensures ∙ (sym (map-map (of_value errors) view_variable_explanation c.in_ok-explanations.explanations.items)
    ∙ (ap (map (of_value errors)) c.in_ok-explanations.ensures
    ∙ chosen-misfits s given errors _ (view_operation default_shown c.in-Ok.operation.now) c.in-Ok.ensures))
