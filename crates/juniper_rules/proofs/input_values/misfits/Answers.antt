use Rattle.std.proofs.Common.{ap, drop, map, ◌+◌}
use Rattle.juniper_syntax.specs.RuleView.{view_rule_error}
use Rattle.juniper_schema.specs.SchemaView.{view_schema}
use Rattle.juniper_syntax.specs.DocumentView.{view_variable}
use Rattle.juniper_rules.specs.GivenView.{view_given_values}
use Rattle.juniper_rules.proofs.Misfits.{listed-all, listed-first, listed-next}
use Rattle.juniper_rules.proofs.input_values.misfits.Goals as goal

pub loop-variable-init : goal.loop-variable-init
loop-variable-init g c =
    let shown = g.S.ScalarValue.shown in
    listed-first (view_variable shown) (view_schema shown c.args.schema.now) (view_given_values shown c.args.given.now) c.args.defined.now _
    (ap (map view_rule_error) c.new-errors.ensures.items)

pub loop-variable-preserved : goal.loop-variable-preserved
loop-variable-preserved g c =
    let shown = g.S.ScalarValue.shown in
    listed-next (view_variable shown) (view_schema shown c.args.schema.now)
    (view_given_values shown c.args.given.now) c.args.defined.now c.loop-variable.variable-index c.variable-item.result c.loop-variable-test.true
    c.variable-item.is
    (map view_rule_error c.loop-variable.errors.items) _ (c.in_ok-report.ensures
    (map (view_variable shown) (drop (c.loop-variable.variable-index + 1) c.args.defined.now))) c.loop-variable.invariant

pub returns : goal.returns
returns g c =
    let shown = g.S.ScalarValue.shown in
    listed-all (view_variable shown) (view_schema shown c.args.schema.now)
    (view_given_values shown c.args.given.now) c.args.defined.now c.loop-variable.variable-index c.loop-variable-test.false _ c.loop-variable.invariant
