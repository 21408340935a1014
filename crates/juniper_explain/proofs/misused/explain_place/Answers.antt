use Rattle.std.proofs.Common.{[], None, Some, ap, append-nil, option_map, sym, ◌∙◌, ◌++◌}
use Rattle.std.proofs.lemmas.Result.{on_ok_weaker}
use Rattle.juniper_syntax.specs.DocumentView.{view_variable}
use Rattle.juniper_explain.specs.Explanations.{view_explanations}
use Rattle.juniper_explain.specs.Nodes.{misused_at, misused_by}
use Rattle.juniper_type_rules.specs.UsesView.{view_place}
use Rattle.juniper_explain.proofs.misused.explain_place.Goals as goal

pub returns-in-Some : goal.returns-in-Some
unfolding misused_by
returns-in-Some g c =
    let old = view_explanations c.args.explanations.now.items in
    let p = view_place c.args.place.now in
    on_ok_weaker c.explain_variable.result (λ added. added
    ∙ ap (λ o. old ++ elim o [ None ↦ [] | Some v ↦ misused_at v p ])
    (sym (ap (option_map (λ v. view_variable g.S.ScalarValue.shown v.now)) c.in-Some.is) ∙ c.first_of.ensures)) c.explain_variable.ensures

pub returns-in-None : goal.returns-in-None
unfolding misused_by
returns-in-None g c =
    let old = view_explanations c.args.explanations.now.items in
    let p = view_place c.args.place.now in
    sym (append-nil old) ∙ ap (λ o. old ++ elim o [ None ↦ [] | Some v ↦ misused_at v p ])
    (sym (ap (option_map (λ v. view_variable g.S.ScalarValue.shown v.now)) c.in-None.is) ∙ c.first_of.ensures)
