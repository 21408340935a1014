use Rattle.std.proofs.Common.{◌||◌, not, codes, bytes_eq, ap, sym, ◌∙◌}
use Rattle.juniper_schema.proofs.lists.is_listed.Goals as goal
use Rattle.juniper_schema.proofs.lists.is_listed.Goals.{then-eq, else-eq}

pub returns : goal.returns
returns c =
    let other = bytes_eq c.args.name.now (codes "_EmptySubscription") in
    ap not (elim c.if-eq.branch [
      | then-eq w ↦ w.result-is ∙ (w.if-eq.true ∙ sym (ap (λ b. b || other) (sym c.eq.ensures ∙ w.if-eq.true)))
      | else-eq w ↦ w.result-is ∙ (w.eq-else-eq.ensures ∙ sym (ap (λ b. b || other) (sym c.eq.ensures ∙ w.if-eq.false)))
    ])
