use Rattle.std.proofs.Common.{map}
use Rattle.graphql_spec.specs.Documents.{written}
use Rattle.graphql_spec.specs.Written.{repeats}
use Rattle.juniper_syntax.specs.DocumentView.{view_arguments}
use Rattle.juniper_written.proofs.Deciding.{IsOpen}
use Rattle.juniper_written.proofs.unique_argument_names.repeats_argument.Given as goal

abbrev pub invariant-loop-index : goal.invariant-loop-index
invariant-loop-index g l =
    IsOpen (λ a. written (view_arguments g.S.ScalarValue.shown a.now)) (λ as'. repeats (map (λ a. a.name.item) as')) l.arguments.lists.items l.index
