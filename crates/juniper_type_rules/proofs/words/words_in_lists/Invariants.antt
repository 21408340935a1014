use Rattle.std.proofs.Common.{[], map}
use Rattle.std.specs.List.{flat_map}
use Rattle.graphql_spec.specs.Documents.{written}
use Rattle.juniper_type_rules.specs.Variables.{words_given}
use Rattle.juniper_syntax.specs.DocumentView.{view_arguments, view_word}
use Rattle.juniper_written.proofs.Lists.{IsFlatSoFar}
use Rattle.juniper_type_rules.proofs.words.words_in_lists.Given as goal

abbrev pub invariant-loop-index : goal.invariant-loop-index
invariant-loop-index g l =
    let shown = g.S.ScalarValue.shown in
    IsFlatSoFar (λ x. flat_map words_given (written (view_arguments shown x.now))) l.arguments.lists.items [] l.index
    (map view_word l.words.items)
