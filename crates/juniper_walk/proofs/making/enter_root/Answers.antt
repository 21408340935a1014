use Rattle.std.proofs.Common.{arith}
use Rattle.graphql_spec.specs.Selections.{occurrences}
use Rattle.juniper_walk.specs.Plans.{all_expanded}
use Rattle.juniper_walk.proofs.Entering.{less-spends}
use Rattle.juniper_walk.proofs.Standing.{made-charged, range-length}
use Rattle.juniper_walk.proofs.making.enter_root.Goals as goal

pub returns-clause-made : goal.returns-clause-made
returns-clause-made g c =
    made-charged g.S.ScalarValue.shown c.args.collector.now (g.R.Resolver.asks c.args.collector.now.possible) (g.R.Conditions.possible c.args.collector.now.possible)
    c.args.concrete.now _ _ c.args.plan.now c.root_groups.new.plan c.charge.new.self c.in_ok-groups.groups c.in_ok-groups.ensures.0 c.in_ok-charge.ensures

pub returns-clause-counted : goal.returns-clause-counted
returns-clause-counted g c = omega (arith, c.in_ok-charge.ensures.left, c.in_ok-groups.ensures.1)

pub returns-in_err-charge-clause-entered : goal.returns-in_err-charge-clause-entered
returns-in_err-charge-clause-entered g c =
    let collector = c.args.collector.now in
    let possible = g.R.Conditions.possible collector.possible in
    let s = all_expanded g.S.ScalarValue.shown collector c.args.enclosing.now in
    let range = range-length g.S.ScalarValue.shown collector (g.R.Resolver.asks collector.possible) c.args.concrete.now c.root_groups.new.plan
    c.in_ok-groups.groups (occurrences possible c.args.concrete.now s) c.in_ok-groups.ensures.0.stands in
    less-spends _ _ _ (omega (arith, c.in_err-charge.ensures, c.in_ok-groups.ensures.1, range)) c.from_residual-in_err-charge.result
    c.from_residual-in_err-charge.ensures.0

pub returns-clause-entered : goal.returns-clause-entered
returns-clause-entered g c =
    let collector = c.args.collector.now in
    let possible = g.R.Conditions.possible collector.possible in
    let s = all_expanded g.S.ScalarValue.shown collector c.args.enclosing.now in
    let range = range-length g.S.ScalarValue.shown collector (g.R.Resolver.asks collector.possible) c.args.concrete.now c.root_groups.new.plan
    c.in_ok-groups.groups (occurrences possible c.args.concrete.now s) c.in_ok-groups.ensures.0.stands in
    omega (arith, c.in_ok-charge.ensures.left, c.in_ok-groups.ensures.1, range)
