use Rattle.juniper_syntax.specs.DocumentView.{view_variable}
use Rattle.juniper_written.proofs.Deciding.{IsOpen}
use Rattle.juniper_written.specs.FieldNames.{default_repeats}
use Rattle.juniper_written.proofs.unique_input_field_names.variables_repeat.Given as goal

abbrev pub invariant-loop-variable : goal.invariant-loop-variable
invariant-loop-variable g l = IsOpen (view_variable g.S.ScalarValue.shown) default_repeats l.variable-items l.variable-index
