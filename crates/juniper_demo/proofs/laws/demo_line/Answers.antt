use Rattle.juniper_demo.proofs.Lines.{outcomes-are-the-line, the-line-is-answered, word-is-answered}
use Rattle.juniper_demo.proofs.laws.demo_line.Goals as goal

pub returns-clause-outcomes : goal.returns-clause-outcomes
returns-clause-outcomes c = outcomes-are-the-line

pub returns-clause-exists : goal.returns-clause-exists
returns-clause-exists c = the-line-is-answered

pub returns-clause-program : goal.returns-clause-program
returns-clause-program c = word-is-answered
