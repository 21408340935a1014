use Rattle.juniper_lookahead.specs.SelectionView.{view_selection}
use Rattle.juniper_lookahead.proofs.Going.{last-handed}
use Rattle.juniper_lookahead.proofs.going_over.ChildrenIntoIterDoubleEndedIterator.next_back.Goals as goal

pub returns-clause-steps : goal.returns-clause-steps
returns-clause-steps g c = last-handed view_selection c.args.self.now.left c.next_back.result c.next_back.new.self c.next_back.ensures.steps
