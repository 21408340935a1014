use Rattle.std.proofs.Common.{ap, codes, ◌∙◌, ◌++◌}
use Rattle.std.proofs.lemmas.Result.{IfOk-weaker}
use Rattle.juniper_explain.specs.Nearest.{suggested}
use Rattle.juniper_explain.specs.Nodes.{suggestion}
use Rattle.juniper_explain.specs.SitesView.{owner_text}
use Rattle.juniper_explain.proofs.given.unknown_text.Goals as goal

pub returns : goal.returns
returns g c = IfOk-weaker c.format.result _ _ (λ t is. is
    ∙ ap (λ e. codes "Unknown argument `" ++ (c.args.name.now ++ (codes "` of `" ++ (owner_text c.args.owner.now ++ (codes "`" ++ e)))))
    (c.in_ok-meant.ensures ∙ ap suggestion (c.in_ok-near.ensures ∙ ap (suggested c.args.name.now) c.in_ok-names.ensures))) c.format.ensures.ok
