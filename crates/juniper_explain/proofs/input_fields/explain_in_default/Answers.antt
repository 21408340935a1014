use Rattle.std.proofs.Common.{ap, sym, option_map, ◌∙◌, ◌++◌}
use Rattle.std.proofs.lemmas.Result.{on_ok_weaker}
use Rattle.std.proofs.lemmas.List.{append-nil}
use Rattle.juniper_syntax.specs.Positions.{view_spanning}
use Rattle.juniper_syntax.specs.InputView.{view_input}
use Rattle.juniper_explain.specs.Explanations.{view_explanations}
use Rattle.juniper_explain.specs.Nodes.{repeated_in_default}
use Rattle.juniper_explain.proofs.input_fields.explain_in_default.Goals as goal

pub returns-in-Some : goal.returns-in-Some
unfolding repeated_in_default
returns-in-Some g c =
    let shown = g.S.ScalarValue.shown in
    let old = view_explanations c.args.explanations.now.items in
    on_ok_weaker c.explain_in_value.result (λ added. added
    ∙ ap (λ o. old ++ repeated_in_default (option_map (view_spanning (view_input shown)) o)) (sym c.in-Some.is)) c.explain_in_value.ensures

pub returns-in-None : goal.returns-in-None
unfolding repeated_in_default
returns-in-None g c =
    let shown = g.S.ScalarValue.shown in
    let old = view_explanations c.args.explanations.now.items in
    sym (append-nil old) ∙ ap (λ o. old ++ repeated_in_default (option_map (view_spanning (view_input shown)) o)) (sym c.in-None.is)
