use Rattle.std.proofs.Common.{ap, sym, option_map, ◌∙◌, ◌++◌}
use Rattle.std.proofs.lemmas.Result.{on_ok_weaker}
use Rattle.std.proofs.lemmas.List.{append-nil}
use Rattle.juniper_syntax.specs.Positions.{view_spanning}
use Rattle.juniper_schema.specs.SchemaView.{view_schema}
use Rattle.juniper_syntax.specs.DocumentView.{view_variable}
use Rattle.juniper_syntax.specs.InputView.{view_input}
use Rattle.juniper_explain.specs.Explanations.{view_explanations}
use Rattle.juniper_explain.specs.Nodes.{misfit, wrong_default}
use Rattle.juniper_explain.proofs.variables.explain_default.Goals as goal

pub returns-in_ok-reference-in-Some : goal.returns-in_ok-reference-in-Some
unfolding wrong_default
returns-in_ok-reference-in-Some g c =
    let shown = g.S.ScalarValue.shown in
    let s = view_schema shown c.args.schema.now in
    let v = view_variable shown c.args.variable.now in
    let old = view_explanations c.args.explanations.now.items in
    on_ok_weaker c.explain_misfit.result (λ added. added
    ∙ (ap (λ t. old ++ misfit s v.name.item (view_spanning (view_input shown) c.in-Some.value) t) c.in_ok-reference-in-Some.ensures
    ∙ ap (λ o. old ++ wrong_default s v (option_map (view_spanning (view_input shown)) o)) (sym c.in-Some.is))) c.explain_misfit.ensures

pub returns-in-None : goal.returns-in-None
unfolding wrong_default
returns-in-None g c =
    let shown = g.S.ScalarValue.shown in
    let s = view_schema shown c.args.schema.now in
    let v = view_variable shown c.args.variable.now in
    let old = view_explanations c.args.explanations.now.items in
    sym (append-nil old) ∙ ap (λ o. old ++ wrong_default s v (option_map (view_spanning (view_input shown)) o)) (sym c.in-None.is)
