use Rattle.std.proofs.Common.{map, ap, sym, ◌∙◌}
use Rattle.std.proofs.lemmas.Result.{IfOk-weaker}
use Rattle.juniper_json.specs.RefusalText.{view_refusal}
use Rattle.juniper_schema.specs.SchemaView.{view_schema}
use Rattle.juniper_syntax.specs.DocumentView.{view_document}
use Rattle.juniper_syntax.specs.Scalars.{default_shown}
use Rattle.juniper_endpoint.proofs.Explaining.{nodes-left-out, nodes-read}
use Rattle.juniper_endpoint.proofs.explained.explained.Goals as goal

pub returns-then-is_left_out : goal.returns-then-is_left_out
returns-then-is_left_out c =
    let e = c.args.explainer.now in
    ap (map view_refusal) c.new.ensures.items
    ∙ nodes-left-out (view_schema default_shown e.schema.now) e.is_introspection_disabled e.most_bytes c.args.text.now
    (view_document default_shown c.args.document.now) (sym c.is_left_out.ensures ∙ c.if-is_left_out.true)

pub returns : goal.returns
returns c =
    let e = c.args.explainer.now in
    IfOk-weaker c.explained_in.result _ _ (λ made is. is
    ∙ nodes-read (view_schema default_shown e.schema.now) e.is_introspection_disabled e.most_bytes c.args.text.now
    (view_document default_shown c.args.document.now) (sym c.is_left_out.ensures ∙ c.if-is_left_out.false)) c.explained_in.ensures
