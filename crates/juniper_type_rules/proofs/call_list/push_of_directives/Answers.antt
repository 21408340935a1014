use Rattle.std.proofs.Common.{◌<◌, ◌≤◌, length, refl, ap, ◌∙◌, ◌++◌, arith}
use Rattle.juniper_syntax.specs.DocumentView.{view_directive}
use Rattle.juniper_type_rules.specs.CallView.{view_calls}
use Rattle.juniper_type_rules.specs.Placing.{call_of_directive}
use Rattle.juniper_written.proofs.Lists.{flat-next, flat-all, flat-seen}
use Rattle.juniper_type_rules.proofs.call_list.push_of_directives.Goals as goal

pub loop-index-init : goal.loop-index-init
loop-index-init g c = refl

pub loop-index-preserved : goal.loop-index-preserved
loop-index-preserved g c =
    let shown = g.S.ScalarValue.shown in
    let ds = c.args.directives.now in
    let below : c.loop-index.index < length ds.items = omega (arith, c.loop-index-test.true, c.len-index-end.ensures, ds.ok.0) in
    flat-next (λ d. call_of_directive (view_directive shown d.now)) ds.items
    (view_calls shown c.args.calls.now.items) c.loop-index.index c.index-directive.result.now
    (view_calls shown c.loop-index.calls.items) (view_calls shown c.push_of_directive.new.calls.items) below c.index-directive.ensures c.loop-index.invariant
    c.in_ok-push_of_directive.ensures

pub returns : goal.returns
returns g c =
    let shown = g.S.ScalarValue.shown in
    let ds = c.args.directives.now in
    let old = view_calls shown c.args.calls.now.items in
    let past : length ds.items ≤ c.loop-index.index = omega (arith, c.loop-index-test.false, c.len-index-end.ensures, ds.ok.0) in
    flat-all (λ d. call_of_directive (view_directive shown d.now)) ds.items old c.loop-index.index
    (view_calls shown c.loop-index.calls.items) past c.loop-index.invariant
    ∙ ap (λ l. old ++ l) (flat-seen (λ d. view_directive shown d.now) call_of_directive ds.items)
