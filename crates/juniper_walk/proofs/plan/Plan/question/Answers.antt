use Rattle.std.proofs.Common.{◌∷◌, ◌+◌, drop, sym, ap, ◌∙◌}
use Rattle.std.proofs.lemmas.List.{drop_more}
use Rattle.juniper_walk.proofs.plan.Plan.question.Goals as goal

pub returns : goal.returns
returns g c =
    drop_more c.args.self.now.questions.items c.args.group.0 c.index.result.now c.requires
    ∙ ap (λ x. x ∷ drop (c.args.group.0 + 1) c.args.self.now.questions.items) (sym c.index.ensures)
