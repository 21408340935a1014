use Rattle.std.proofs.Common.{map, ap, sym, ◌∙◌}
use Rattle.std.proofs.lemmas.Result.{IfOk-weaker}
use Rattle.juniper.specs.Answering.{request_of}
use Rattle.juniper_json.specs.RefusalText.{view_refusal}
use Rattle.juniper_schema.specs.SchemaView.{view_schema}
use Rattle.juniper_syntax.specs.DocumentView.{view_document}
use Rattle.juniper_syntax.specs.RuleView.{view_rule_error}
use Rattle.juniper_syntax.specs.Scalars.{default_shown}
use Rattle.juniper_endpoint.proofs.Explaining.{values-left-out, values-read}
use Rattle.juniper_endpoint.proofs.values.misfits.Goals as goal

pub returns-then-is_left_out : goal.returns-then-is_left_out
returns-then-is_left_out c =
    let e = c.args.explainer.now in
    let q = request_of default_shown c.args.request.now.query.now c.args.request.now.operation_name c.args.values.now in
    ap (map view_refusal) c.new.ensures.items
    ∙ values-left-out (view_schema default_shown e.schema.now) e.is_introspection_disabled e.most_bytes q
    (map view_rule_error c.args.errors.now) (view_document default_shown c.args.document.now)
    (sym c.is_left_out.ensures ∙ c.if-is_left_out.true)

pub returns : goal.returns
returns c =
    let e = c.args.explainer.now in
    let q = request_of default_shown c.args.request.now.query.now c.args.request.now.operation_name c.args.values.now in
    IfOk-weaker c.misfits_in.result _ _ (λ made is. is
    ∙ values-read (view_schema default_shown e.schema.now) e.is_introspection_disabled e.most_bytes q
    (map view_rule_error c.args.errors.now) (view_document default_shown c.args.document.now)
    (sym c.is_left_out.ensures ∙ c.if-is_left_out.false)) c.misfits_in.ensures
