use Rattle.std.proofs.Common.{◌≡◌, subst, sym, ap, ◌∙◌}
use Rattle.graphql_spec.specs.Resolvers.{answered, leaf}
use Rattle.graphql_spec.specs.SeenNodes.{map_reply, map_tree}
use Rattle.juniper_values.specs.ResolvedView.{Answers, view_resolved}
use Rattle.juniper_values.proofs.Resolutions.{view-Scalar}
use Rattle.juniper_intro.specs.HandleView.{of_user}
use Rattle.juniper_intro.proofs.rooted.rooted_answer.Goals as goal

pub returns-in-Ok-Scalar-clause-answer : goal.returns-in-Ok-Scalar-clause-answer
unfolding map_reply map_tree
returns-in-Ok-Scalar-clause-answer g c = λ reply given.
    let shown = g.S.ScalarValue.shown in
    let at : reply ≡ answered (view_resolved shown c.in-Ok-Scalar.field-0) = subst (λ a. Answers shown a reply) c.in-Ok-Scalar.is given in
    ap (map_reply of_user) at ∙ ap answered (ap (λ a. map_tree of_user (view_resolved shown a)) c.in-Ok-Scalar.field-0-is
    ∙ (ap (map_tree of_user) (view-Scalar shown _) ∙ (ap (λ s. leaf (shown s)) (sym c.in-Ok-Scalar.scalar-is) ∙ sym (view-Scalar shown _))))
