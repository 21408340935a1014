use Rattle.graphql_spec.proofs.walking.tells_once.Goals as goal
use Rattle.graphql_spec.proofs.Picked.{firsts-stand}
use Rattle.graphql_spec.proofs.Exact.{firsts-tell-once, parts-tell-once, run-places-differ, order-tells-once, thinned-tells-once, walks-exact-answer}
use Rattle.graphql_spec.proofs.Exact.{runs-exact-answer}

pub returns-clause-stand : goal.returns-clause-stand
returns-clause-stand g c = firsts-stand

pub returns-clause-firsts : goal.returns-clause-firsts
returns-clause-firsts g c = firsts-tell-once

pub returns-clause-places : goal.returns-clause-places
returns-clause-places g c = λ M T. run-places-differ M T

pub returns-clause-answers : goal.returns-clause-answers
returns-clause-answers g c = λ W. walks-exact-answer W

pub returns-clause-runs : goal.returns-clause-runs
returns-clause-runs g c = λ M T. runs-exact-answer M T

pub returns-clause-order : goal.returns-clause-order
returns-clause-order g c = order-tells-once

pub returns-clause-parts : goal.returns-clause-parts
returns-clause-parts g c = parts-tell-once

pub returns-clause-thinned : goal.returns-clause-thinned
returns-clause-thinned g c = thinned-tells-once
