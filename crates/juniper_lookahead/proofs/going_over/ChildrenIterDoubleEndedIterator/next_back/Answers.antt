use Rattle.juniper_lookahead.specs.SelectionView.{view_selection}
use Rattle.juniper_lookahead.proofs.Going.{last-step}
use Rattle.juniper_lookahead.proofs.going_over.ChildrenIterDoubleEndedIterator.next_back.Goals as goal

pub returns-clause-steps : goal.returns-clause-steps
returns-clause-steps g c = last-step view_selection c.args.self.now.left c.next_back.result c.next_back.new.self c.next_back.ensures.steps
