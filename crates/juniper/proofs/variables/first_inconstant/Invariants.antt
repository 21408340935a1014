use Rattle.std.proofs.Common.{◌≡◌, drop, map}
use Rattle.graphql_spec.specs.Requests.{first_not_constant}
use Rattle.juniper_syntax.specs.DocumentView.{view_variable}
use Rattle.juniper_rules.specs.GivenView.{view_given_values}
use Rattle.juniper.proofs.variables.first_inconstant.Given as goal

-- what is left decides
abbrev pub invariant-loop-variable : goal.invariant-loop-variable
invariant-loop-variable g l =
    let shown = g.S.ScalarValue.shown in
    first_not_constant (map (view_variable shown) (drop l.variable-index l.defined)) (view_given_values shown l.given)
    ≡ first_not_constant (map (view_variable shown) l.defined) (view_given_values shown l.given)
