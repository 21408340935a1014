use Rattle.juniper_lookahead.specs.SelectionView.{view_selection}
use Rattle.juniper_lookahead.proofs.Going.{first-step}
use Rattle.juniper_lookahead.proofs.going_over.ChildrenIterIterator.next.Goals as goal

pub returns-clause-steps : goal.returns-clause-steps
returns-clause-steps g c = first-step view_selection c.args.self.now.left c.next.result c.next.new.self c.next.ensures.steps
