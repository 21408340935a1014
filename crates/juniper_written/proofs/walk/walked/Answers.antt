use Rattle.juniper_written.specs.WrittenView.{has_name}
use Rattle.juniper_written.proofs.Looking.{not-true, popped, goes-down, goes-on}
use Rattle.juniper_written.proofs.walk.walked.Goals as goal

pub loop-step-smaller-in-Continue-branch-4 : goal.loop-step-smaller-in-Continue-branch-4
loop-step-smaller-in-Continue-branch-4 c =
    goes-down c.args.spreads.now (has_name c.loop-step.entered) (has_name c.insert.new.self) c.in-Enter.name.now c.in_ok-insert-in-Enter.ensures.added
    (not-true _ _ c.in_ok-insert-in-Enter.ensures.found c.if-branch.true) c.loop-step.steps.items c.pop.new.self.items c.enter.new.steps.items c.in-Some.step
    (popped c.loop-step.steps.items c.pop.new.self.items c.pop.result c.in-Some.step c.pop.ensures.items c.in-Some.is) c.in_ok-enter-in-Enter.ensures

pub loop-step-smaller-else-branch : goal.loop-step-smaller-else-branch
loop-step-smaller-else-branch c =
    goes-on c.args.spreads.now (has_name c.loop-step.entered) (has_name c.insert.new.self) c.in-Enter.name.now c.in_ok-insert-in-Enter.ensures.added
    c.loop-step.steps.items c.pop.new.self.items c.in-Some.step (popped c.loop-step.steps.items c.pop.new.self.items c.pop.result c.in-Some.step
    c.pop.ensures.items c.in-Some.is)
