use Rattle.std.proofs.Common.{◌≡◌, drop, map}
use Rattle.graphql_spec.specs.Directives.{admits, passes}
use Rattle.juniper_syntax.specs.InputView.{view_variables}
use Rattle.juniper_syntax.specs.DocumentView.{view_directive}
use Rattle.juniper_lookahead.proofs.directives.admits.Given as goal

-- what is left decides
abbrev pub invariant-loop-directive : goal.invariant-loop-directive
invariant-loop-directive g l =
    let shown = g.S.ScalarValue.shown in
    admits (passes (view_variables shown l.variables)) (map (view_directive shown) (drop l.directive-index l.written))
    ≡ admits (passes (view_variables shown l.variables)) (map (view_directive shown) l.written)
