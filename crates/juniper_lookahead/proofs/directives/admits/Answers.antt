use Rattle.std.proofs.Common.{sym, ap, ◌∙◌}
use Rattle.graphql_spec.specs.Directives.{admits, passes}
use Rattle.juniper_syntax.specs.InputView.{view_variables}
use Rattle.juniper_syntax.specs.DocumentView.{view_directive}
use Rattle.juniper_lookahead.specs.DirectiveView.{view_lent}
use Rattle.juniper_lookahead.proofs.Admitting.{admits-stops, admits-goes-on}
use Rattle.juniper_lookahead.proofs.directives.admits.Goals as goal

pub returns-then-not-passed : goal.returns-then-not-passed
returns-then-not-passed g c =
    let shown = g.S.ScalarValue.shown in
    let test = passes (view_variables shown c.args.variables.now) in
    sym (ap (λ o. admits test (view_lent shown o)) c.in-Some.is
    ∙ admits-stops test (view_directive shown) c.in-Some.written.now c.loop-directive.directive-index c.directive-item.result
    c.loop-directive-test.true c.directive-item.is
    (sym c.if-not-passed.ensures) c.loop-directive.invariant)

pub loop-directive-preserved : goal.loop-directive-preserved
loop-directive-preserved g c =
    let shown = g.S.ScalarValue.shown in
    admits-goes-on (passes (view_variables shown c.args.variables.now)) (view_directive shown) c.in-Some.written.now c.loop-directive.directive-index
    c.directive-item.result c.loop-directive-test.true c.directive-item.is
    (sym c.if-not-passed.ensures) c.loop-directive.invariant
