use Rattle.std.proofs.Common.{sym}
use Rattle.graphql_spec.specs.Rules.{gives_unknown}
use Rattle.juniper_type_rules.specs.CallView.{view_call}
use Rattle.juniper_written.proofs.Deciding.{open-first, open-next, one-passes, none-passes}
use Rattle.juniper_type_rules.proofs.known_argument_names.has_unknown_argument.Goals as goal

pub loop-call-init : goal.loop-call-init
loop-call-init g c =
    let shown = g.S.ScalarValue.shown in
    open-first (view_call shown) (gives_unknown) c.args.calls.now

pub loop-call-preserved : goal.loop-call-preserved
loop-call-preserved g c =
    let shown = g.S.ScalarValue.shown in
    open-next (view_call shown) (gives_unknown) c.args.calls.now c.loop-call.call-index c.call-item.result c.loop-call-test.true c.call-item.is
    (sym c.if-gives_unknown.ensures) c.loop-call.invariant

pub returns : goal.returns
returns g c =
    let shown = g.S.ScalarValue.shown in
    none-passes (view_call shown) (gives_unknown) c.args.calls.now c.loop-call.call-index c.loop-call-test.false c.loop-call.invariant

pub returns-then-gives_unknown : goal.returns-then-gives_unknown
returns-then-gives_unknown g c =
    let shown = g.S.ScalarValue.shown in
    one-passes (view_call shown) (gives_unknown) c.args.calls.now c.loop-call.call-index c.call-item.result c.loop-call-test.true c.call-item.is
    (sym c.if-gives_unknown.ensures) c.loop-call.invariant
