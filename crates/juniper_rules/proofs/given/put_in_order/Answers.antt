use Rattle.juniper_rules.proofs.InOrder.{all-put, next-put, none-put}
use Rattle.juniper_rules.proofs.given.put_in_order.Goals as goal

pub loop-name-init : goal.loop-name-init
loop-name-init g c = none-put c.args.variables.now.entries c.new-values.result c.into_iter-name-iterator.result c.new-values.ensures.empty
    c.into_iter-name-iterator.ensures.into_iter_gives.0 c.into_iter-name-iterator.ensures.into_iter_gives.4

pub loop-name-preserved : goal.loop-name-preserved
loop-name-preserved g c =
    next-put c.args.variables.now.entries c.loop-name.values c.insert.new.self c.loop-name.name-iterator c.next.new.self c.in-Some.name.now
    c.in-Some.value c.as_str.result.now c.in-Some.ensures.steps c.as_str.ensures.value c.in_ok-insert.ensures.updates c.loop-name.invariant

pub returns : goal.returns
returns g c = all-put c.args.variables.now.entries c.loop-name.values c.loop-name.name-iterator c.in-None.ensures.steps.0 c.loop-name.invariant
