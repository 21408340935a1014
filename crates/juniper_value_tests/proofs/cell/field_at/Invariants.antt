use Rattle.std.proofs.Common.{◌≡◌, drop}
use Rattle.graphql_spec.specs.Constants.{find, members}
use Rattle.juniper_syntax.specs.InputView.{view_fields}
use Rattle.juniper_value_tests.proofs.cell.field_at.Given as goal

-- what is left decides
abbrev pub invariant-loop-key : goal.invariant-loop-key
invariant-loop-key g l =
    let shown = g.S.ScalarValue.shown in
    find l.name (members (view_fields shown (drop l.key-index l.fields))) ≡ find l.name (members (view_fields shown l.fields))
