use Rattle.std.proofs.Common.{◌≡◌, ◌-◌, length, drop, map}
use Rattle.graphql_spec.specs.Shown.{Name}
use Rattle.graphql_spec.specs.Requests.{coerced_variables}
use Rattle.juniper_syntax.specs.DocumentView.{view_variable}
use Rattle.juniper_syntax.specs.InputView.{view_variables}
use Rattle.juniper_rules.specs.GivenView.{view_given_values}
use Rattle.juniper.proofs.variables.values_of.Given as goal

-- the values of the last definitions are there
abbrev pub invariant-loop-index : goal.invariant-loop-index
invariant-loop-index g l =
    let shown = g.S.ScalarValue.shown in
    (n : Name) → view_variables shown l.made n ≡ coerced_variables (map (view_variable shown) (drop (length l.defined - l.index) l.defined))
    (view_given_values shown l.given) n
