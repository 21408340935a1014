use Rattle.std.proofs.Common.{ap, ◌∙◌, ◌++◌}
use Rattle.std.proofs.lemmas.Result.{on_ok_weaker}
use Rattle.graphql_spec.specs.Requests.{item_of}
use Rattle.juniper_syntax.specs.DocumentView.{view_variable}
use Rattle.juniper_syntax.specs.InputView.{view_input}
use Rattle.juniper_schema.specs.SchemaView.{view_schema}
use Rattle.juniper_explain.specs.GivenValues.{absent_reasons, variable_reasons}
use Rattle.juniper_explain.specs.Reasons.{value_reasons, variable_path}
use Rattle.juniper_explain.specs.ReasonsView.{place_text, view_messages}
use Rattle.juniper_explain.proofs.variable_values.explain_variable.Goals as goal

pub returns-in-Some : goal.returns-in-Some
unfolding variable_reasons place_text
returns-in-Some g c =
    let shown = g.S.ScalarValue.shown in
    let s = view_schema shown c.args.schema.now in
    let v = view_variable shown c.args.variable.now in
    let old = view_messages c.args.messages.now.items in
    on_ok_weaker c.explain_value.result (λ added. added
    ∙ (ap (λ t. old ++ value_reasons s (view_input shown c.in-Some.value.now) t (variable_path v.name.item)) c.in_ok-reference.ensures
    ∙ ap (λ o. old ++ variable_reasons s v o) c.in-Some.ensures)) c.explain_value.ensures

pub returns : goal.returns
unfolding variable_reasons
returns g c =
    let shown = g.S.ScalarValue.shown in
    let s = view_schema shown c.args.schema.now in
    let v = view_variable shown c.args.variable.now in
    let old = view_messages c.args.messages.now.items in
    on_ok_weaker c.explain_absent.result (λ added. added
    ∙ (ap (λ t. old ++ absent_reasons s v.name.item t (item_of v.default)) c.in_ok-reference.ensures
    ∙ ap (λ o. old ++ variable_reasons s v o) c.in-None.ensures)) c.explain_absent.ensures
