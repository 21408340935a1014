use Rattle.std.proofs.Common.{◌≡◌, map, take}
use Rattle.graphql_spec.specs.Arguments.{given}
use Rattle.juniper_syntax.specs.DocumentView.{view_argument}
use Rattle.juniper_syntax.specs.InputView.{view_variables}
use Rattle.juniper_values.specs.ArgumentView.{view_arguments}
use Rattle.juniper_execute.proofs.coerce.give.Given as goal

abbrev pub invariant-loop-argument : goal.invariant-loop-argument
invariant-loop-argument g l =
    view_arguments g.S.ScalarValue.shown l.arguments ≡ given (view_variables g.S.ScalarValue.shown l.variables)
    (map (view_argument g.S.ScalarValue.shown) (take l.argument-index l.written))
