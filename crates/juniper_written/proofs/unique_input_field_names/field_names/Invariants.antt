use Rattle.std.proofs.Common.{◌≡◌, ◌++◌, drop}
use Rattle.juniper_syntax.specs.InputView.{view_fields}
use Rattle.juniper_written.specs.WrittenView.{view_names}
use Rattle.juniper_written.specs.FieldNames.{names_of}
use Rattle.juniper_written.proofs.unique_input_field_names.field_names.Given as goal

-- what is listed, and then what is left, are all
abbrev pub invariant-loop-field : goal.invariant-loop-field
invariant-loop-field g l =
    let shown = g.S.ScalarValue.shown in
    view_names l.names.items ++ names_of (view_fields shown (drop l.field-index l.fields)) ≡ names_of (view_fields shown l.fields)
