use Rattle.std.proofs.Common.{ap, sym, option_map, ◌∙◌, ◌++◌}
use Rattle.std.proofs.lemmas.Result.{on_ok_weaker}
use Rattle.graphql_spec.specs.Requests.{default_fits, item_of}
use Rattle.juniper_meta.specs.MetaView.{view_type}
use Rattle.juniper_syntax.specs.Positions.{view_spanning}
use Rattle.juniper_syntax.specs.InputView.{view_input}
use Rattle.juniper_schema.specs.SchemaView.{view_schema}
use Rattle.juniper_explain.specs.GivenValues.{absent_reasons}
use Rattle.juniper_explain.specs.ReasonsView.{view_messages}
use Rattle.juniper_explain.proofs.variable_values.explain_absent.Goals as goal

pub returns-in-Some : goal.returns-in-Some
unfolding item_of
returns-in-Some g c =
    let shown = g.S.ScalarValue.shown in
    let old = view_messages c.args.messages.now.items in
    on_ok_weaker c.explain_default.result (λ added. added
    ∙ ap (λ o. old ++ absent_reasons (view_schema shown c.args.schema.now) c.args.name.now (view_type c.args.reference.now)
    (item_of (option_map (view_spanning (view_input shown)) o))) (sym c.in-Some.is)) c.explain_default.ensures

pub returns-in-None : goal.returns-in-None
unfolding item_of absent_reasons default_fits
returns-in-None g c =
    let shown = g.S.ScalarValue.shown in
    let s = view_schema shown c.args.schema.now in
    let old = view_messages c.args.messages.now.items in
    on_ok_weaker c.explain_missing.result (λ added. added
    ∙ ap (λ o. old ++ absent_reasons s c.args.name.now (view_type c.args.reference.now) (item_of (option_map (view_spanning (view_input shown)) o)))
    (sym c.in-None.is)) c.explain_missing.ensures
