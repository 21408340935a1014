use Rattle.std.proofs.Common.{not, ap, sym, ◌∙◌}
use Rattle.juniper_written.proofs.Deciding.{open-first, open-next, one-passes, none-passes}
use Rattle.juniper_type_rules.specs.UsesView.{definition_at, is_misused, view_use}
use Rattle.juniper_type_rules.proofs.variables_in_allowed_position.misuses_one.Goals as goal

pub loop-used-init : goal.loop-used-init
loop-used-init g c = open-first view_use (is_misused (definition_at g.S.ScalarValue.shown c.args.defined.now)) c.args.uses.now

pub loop-used-preserved : goal.loop-used-preserved
loop-used-preserved g c =
    open-next view_use (is_misused (definition_at g.S.ScalarValue.shown c.args.defined.now)) c.args.uses.now c.loop-used.used-index c.used-item.result
    c.loop-used-test.true c.used-item.is
    (ap not (sym c.is_allowed.ensures ∙ c.if-not-is_allowed.false)) c.loop-used.invariant

pub returns-then-not-is_allowed : goal.returns-then-not-is_allowed
returns-then-not-is_allowed g c =
    one-passes view_use (is_misused (definition_at g.S.ScalarValue.shown c.args.defined.now)) c.args.uses.now c.loop-used.used-index c.used-item.result
    c.loop-used-test.true c.used-item.is
    (ap not (sym c.is_allowed.ensures ∙ c.if-not-is_allowed.true)) c.loop-used.invariant

pub returns : goal.returns
returns g c =
    none-passes view_use (is_misused (definition_at g.S.ScalarValue.shown c.args.defined.now)) c.args.uses.now c.loop-used.used-index c.loop-used-test.false
    c.loop-used.invariant
