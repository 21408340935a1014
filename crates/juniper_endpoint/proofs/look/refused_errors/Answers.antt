use Rattle.std.proofs.Common.{◌++◌, [], ◌∷◌, map, sym, ap, ◌∙◌}
use Rattle.juniper_json.specs.Each.{view_refused}
use Rattle.juniper_syntax.specs.RuleView.{view_rule_error}
use Rattle.juniper_syntax.specs.DocumentView.{view_variable}
use Rattle.juniper_syntax.specs.Scalars.{default_shown}
use Rattle.juniper_endpoint.proofs.Looking.{refused_next, refused_nil}
use Rattle.juniper_endpoint.specs.Replied.{refused_errors}
use Rattle.juniper_endpoint.proofs.look.refused_errors.Goals as goal

pub loop-variable-init : goal.loop-variable-init
loop-variable-init c = ap (map view_rule_error) c.new-errors.ensures.items ∙ sym (refused_nil (map view_refused c.args.refused.now))

pub loop-variable-preserved : goal.loop-variable-preserved
loop-variable-preserved c =
    let refused = map view_refused c.args.refused.now in
    let x = c.variable-item.result in
    c.in_ok-push_refused.ensures ∙ (ap (λ es. es ++ refused_errors refused (view_variable default_shown x ∷ [])) c.loop-variable.invariant
    ∙ refused_next refused (view_variable default_shown) c.args.defined.now c.loop-variable.variable-index x c.loop-variable-test.true c.variable-item.is)
