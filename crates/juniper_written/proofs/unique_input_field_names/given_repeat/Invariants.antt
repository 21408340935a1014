use Rattle.juniper_syntax.specs.DocumentView.{view_argument}
use Rattle.juniper_written.proofs.Deciding.{IsOpen}
use Rattle.juniper_written.specs.FieldNames.{value_repeats_in}
use Rattle.juniper_written.proofs.unique_input_field_names.given_repeat.Given as goal

abbrev pub invariant-loop-argument : goal.invariant-loop-argument
invariant-loop-argument g l = IsOpen (view_argument g.S.ScalarValue.shown) value_repeats_in l.argument-items l.argument-index
