use Rattle.std.proofs.Common.{sym}
use Rattle.std.specs.Str.{bytes_eq}
use Rattle.juniper_syntax.specs.DocumentView.{view_variable}
use Rattle.juniper_written.proofs.Deciding.{none-passes, one-passes, open-first, open-next}
use Rattle.juniper_explain.proofs.undefined.defines.Goals as goal

pub loop-variable-init : goal.loop-variable-init
loop-variable-init g c = open-first (view_variable g.S.ScalarValue.shown) (λ v. bytes_eq c.args.name.now v.name.item) c.args.variables.now

pub loop-variable-preserved : goal.loop-variable-preserved
loop-variable-preserved g c =
    open-next (view_variable g.S.ScalarValue.shown) (λ v. bytes_eq c.args.name.now v.name.item) c.args.variables.now c.loop-variable.variable-index
    c.variable-item.result c.loop-variable-test.true c.variable-item.is (sym c.if-eq.ensures) c.loop-variable.invariant

pub returns : goal.returns
returns g c =
    none-passes (view_variable g.S.ScalarValue.shown) (λ v. bytes_eq c.args.name.now v.name.item) c.args.variables.now c.loop-variable.variable-index
    c.loop-variable-test.false c.loop-variable.invariant

pub returns-then-eq : goal.returns-then-eq
returns-then-eq g c =
    one-passes (view_variable g.S.ScalarValue.shown) (λ v. bytes_eq c.args.name.now v.name.item) c.args.variables.now c.loop-variable.variable-index
    c.variable-item.result c.loop-variable-test.true c.variable-item.is (sym c.if-eq.ensures) c.loop-variable.invariant
