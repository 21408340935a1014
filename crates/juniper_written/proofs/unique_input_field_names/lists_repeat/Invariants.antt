use Rattle.std.specs.List.{list_any}
use Rattle.graphql_spec.specs.Documents.{written}
use Rattle.juniper_syntax.specs.DocumentView.{view_arguments}
use Rattle.juniper_written.proofs.Deciding.{IsOpen}
use Rattle.juniper_written.specs.FieldNames.{value_repeats_in}
use Rattle.juniper_written.proofs.unique_input_field_names.lists_repeat.Given as goal

abbrev pub invariant-loop-index : goal.invariant-loop-index
invariant-loop-index g l = IsOpen (λ a. written (view_arguments g.S.ScalarValue.shown a.now)) (list_any value_repeats_in) l.arguments.lists.items l.index
