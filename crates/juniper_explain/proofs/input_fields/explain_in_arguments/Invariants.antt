use Rattle.std.specs.List.{flat_map}
use Rattle.graphql_spec.specs.Documents.{written}
use Rattle.juniper_syntax.specs.DocumentView.{view_arguments}
use Rattle.juniper_written.proofs.Lists.{IsFlatSoFar}
use Rattle.juniper_explain.specs.Explanations.{view_explanations}
use Rattle.juniper_explain.specs.Nodes.{repeated_within}
use Rattle.juniper_explain.proofs.input_fields.explain_in_arguments.Given as goal

abbrev pub invariant-loop-index : goal.invariant-loop-index
invariant-loop-index g l =
    IsFlatSoFar (λ x. flat_map (λ a. repeated_within a.value.item) (written (view_arguments g.S.ScalarValue.shown x.now))) l.lists.items
    (view_explanations l.initial.explanations.items) l.index (view_explanations l.explanations.items)
