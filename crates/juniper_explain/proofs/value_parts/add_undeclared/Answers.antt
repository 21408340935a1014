use Rattle.std.proofs.Common.{[], ap, ap₂, codes, map, ◌∷◌, ◌++◌, ◌∙◌}
use Rattle.std.proofs.lemmas.Result.{on_ok_weaker}
use Rattle.juniper_explain.specs.Nearest.{suggested}
use Rattle.juniper_explain.specs.Nodes.{suggestion}
use Rattle.juniper_explain.specs.Reasons.{declared_at, undeclared_at, undeclared_text}
use Rattle.juniper_explain.specs.ReasonsView.{view_messages}
use Rattle.juniper_explain.proofs.value_parts.add_undeclared.Goals as goal

pub returns : goal.returns
unfolding undeclared_at undeclared_text declared_at
returns g c =
    let old = view_messages c.args.messages.now.items in
    let k = c.args.name.now in
    let p = c.args.path.now in
    on_ok_weaker c.say.result (λ added. added ∙ ap (λ x. old ++ x ∷ []) (c.in_ok-message.ensures.ok
    ∙ ap₂ (λ n e. codes "Unknown field `" ++ (k ++ (codes "` of `" ++ (n ++ (codes "` at `" ++ (p ++ (codes "`" ++ e)))))))
    c.innermost_name-type_name.ensures
    (c.in_ok-meant.ensures ∙ ap suggestion (c.in_ok-near.ensures ∙ ap (suggested k) (c.in_ok-names.ensures
    ∙ ap (map (λ d. d.name)) c.input_fields.ensures))))) c.say.ensures
