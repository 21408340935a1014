use Rattle.std.proofs.Common.{◌<◌, ◌≤◌, length, arith, sym, ◌∙◌}
use Rattle.juniper_written.proofs.Deciding.{open-first, open-next, one-passes, none-passes}
use Rattle.juniper_type_rules.specs.UsesView.{definition_at, is_unknown}
use Rattle.juniper_type_rules.proofs.no_undefined_variables.lacks_one.Goals as goal

pub loop-index-init : goal.loop-index-init
loop-index-init g c = open-first (λ n. n.now) (is_unknown (definition_at g.S.ScalarValue.shown c.args.defined.now)) c.args.names.now.items

pub loop-index-preserved : goal.loop-index-preserved
loop-index-preserved g c =
    let ns = c.args.names.now in
    let below : c.loop-index.index < length ns.items = omega (arith, c.loop-index-test.true, c.len-index-end.ensures, ns.ok.0) in
    open-next (λ n. n.now) (is_unknown (definition_at g.S.ScalarValue.shown c.args.defined.now)) ns.items c.loop-index.index c.index.result.now below
    c.index.ensures
    (sym c.is_undefined.ensures ∙ c.if-is_undefined.false) c.loop-index.invariant

pub returns-then-is_undefined : goal.returns-then-is_undefined
returns-then-is_undefined g c =
    let ns = c.args.names.now in
    let below : c.loop-index.index < length ns.items = omega (arith, c.loop-index-test.true, c.len-index-end.ensures, ns.ok.0) in
    one-passes (λ n. n.now) (is_unknown (definition_at g.S.ScalarValue.shown c.args.defined.now)) ns.items c.loop-index.index c.index.result.now below
    c.index.ensures
    (sym c.is_undefined.ensures ∙ c.if-is_undefined.true) c.loop-index.invariant

pub returns : goal.returns
returns g c =
    let ns = c.args.names.now in
    let past : length ns.items ≤ c.loop-index.index = omega (arith, c.loop-index-test.false, c.len-index-end.ensures, ns.ok.0) in
    none-passes (λ n. n.now) (is_unknown (definition_at g.S.ScalarValue.shown c.args.defined.now)) ns.items c.loop-index.index past c.loop-index.invariant
