use Rattle.std.proofs.Common.{ap, append-nil, sym, ◌∙◌, ◌++◌}
use Rattle.std.proofs.lemmas.Result.{on_ok_weaker}
use Rattle.juniper_syntax.specs.DocumentView.{view_variable}
use Rattle.juniper_explain.specs.Explanations.{view_explanations}
use Rattle.juniper_type_rules.specs.UsesView.{view_place}
use Rattle.juniper_explain.proofs.Misusing.{stands, stands-not}
use Rattle.juniper_explain.proofs.misused.explain_variable.Goals as goal

pub returns-then-may_stand : goal.returns-then-may_stand
returns-then-may_stand g c =
    let v = view_variable g.S.ScalarValue.shown c.args.variable.now in
    let p = view_place c.args.place.now in
    let old = view_explanations c.args.explanations.now.items in
    sym (append-nil old) ∙ ap (λ l. old ++ l) (stands v p (sym c.may_stand.ensures ∙ c.if-may_stand.true))

pub returns : goal.returns
returns g c =
    let v = view_variable g.S.ScalarValue.shown c.args.variable.now in
    let p = view_place c.args.place.now in
    let old = view_explanations c.args.explanations.now.items in
    on_ok_weaker c.add.result (λ added. added ∙ ap (λ l. old ++ l)
    (stands-not v p _ c.in_ok-message.ensures (sym c.may_stand.ensures ∙ c.if-may_stand.false))) c.add.ensures
