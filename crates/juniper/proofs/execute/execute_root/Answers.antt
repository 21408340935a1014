use Rattle.juniper.proofs.execute.execute_root.Goals as goal

pub returns-clause-answers : goal.returns-clause-answers
returns-clause-answers g c = c.execute_resolved.ensures.answers

pub returns-clause-spent : goal.returns-clause-spent
returns-clause-spent g c = c.execute_resolved.ensures.spent
