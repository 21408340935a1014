use Rattle.std.proofs.Common.{ap, sym, ◌++◌, ◌∷◌, [], take, ◌∙◌}
use Rattle.std.proofs.lemmas.List.{take_more}
use Rattle.juniper_lookahead.proofs.children.LookAheadChildren.try_clone.Goals as goal

pub loop-child-preserved : goal.loop-child-preserved
loop-child-preserved g c =
    c.in_ok-push.ensures.items ∙ (ap (λ l. l ++ c.child-item.result ∷ []) c.loop-child.invariant
    ∙ (ap (λ x. take c.loop-child.child-index c.deref-child-items.result.now ++ x ∷ []) c.child-item.is
    ∙ sym (take_more c.deref-child-items.result.now c.loop-child.child-index c.child-item.result c.loop-child-test.true)))
