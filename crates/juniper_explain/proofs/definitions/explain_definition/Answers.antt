use Rattle.std.proofs.Common.{ap, ap₂, codes}
use Rattle.std.proofs.lemmas.Result.{on_ok_weaker}
use Rattle.juniper_syntax.specs.DocumentView.{view_definition}
use Rattle.juniper_explain.specs.declared.rule.Rule.TheVariants as rule
use Rattle.juniper_explain.specs.Explanations.{named, whole}
use Rattle.juniper_explain.specs.Nodes.{other_operation, repeated_fragment, repeated_operation}
use Rattle.juniper_explain.proofs.Joined.{three-added}
use Rattle.juniper_explain.proofs.definitions.explain_definition.Goals as goal

pub returns : goal.returns
unfolding other_operation repeated_fragment repeated_operation
returns g c =
    let shown = g.S.ScalarValue.shown in
    let x = view_definition shown c.args.definition.now in
    on_ok_weaker c.add_named-2.result (λ last d ds count earlier. three-added _ _ _ _ _ _ _ _ _ _ c.in_ok-add_named.ensures c.in_ok-add_whole.ensures last
    (ap₂ (λ b w. named b rule.UniqueOperationNames w (codes "Operation name `") (codes "` is not unique"))
    (c.repeats_operation-repeats_operation.ensures ds earlier) c.word_of-word.ensures)
    (ap (λ b. whole b rule.LoneAnonymousOperation x) (c.is_not_alone-is_not_alone.ensures d count))
    (ap₂ (λ b w. named b rule.UniqueFragmentNames w (codes "Fragment name `") (codes "` is not unique"))
    (c.repeats_fragment-repeats_fragment.ensures ds earlier) c.word_of-word.ensures))
    c.add_named-2.ensures
