use Rattle.std.proofs.Common.{◌≡◌, [], ◌∷◌, ◌++◌, None, true, not, ap, sym, ◌∙◌}
use Rattle.std.proofs.lemmas.Result.{on_ok_weaker}
use Rattle.graphql_spec.specs.Types.{required}
use Rattle.juniper_meta.specs.MetaView.{view_type}
use Rattle.juniper_explain.specs.GivenValues.{absent_text}
use Rattle.juniper_explain.specs.Reasons.{text_unless}
use Rattle.juniper_explain.specs.ReasonsView.{view_messages}
use Rattle.juniper_explain.proofs.variable_values.explain_missing.Goals as goal

pub returns : goal.returns
unfolding absent_text text_unless
returns c =
    let old = view_messages c.args.messages.now.items in
    let t = view_type c.args.reference.now in
    let needed : required t ≡ true = sym c.is_non_null.ensures ∙ c.if-not-is_non_null.false in
    on_ok_weaker c.say.result (λ added. added ∙ (ap (λ x. old ++ x ∷ []) c.in_ok-message.ensures.ok
    ∙ ap (λ r. old ++ text_unless (not r) (absent_text c.args.name.now t None)) (sym needed))) c.say.ensures
