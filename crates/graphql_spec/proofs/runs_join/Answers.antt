use Rattle.graphql_spec.proofs.runs_join.Goals as goal
use Rattle.graphql_spec.proofs.ValidRuns.{roots_are_possible, runs_are_valid, runs_agree, runs_join, runs_join_below}

pub returns-clause-roots : goal.returns-clause-roots
returns-clause-roots g c = roots_are_possible

pub returns-clause-valid : goal.returns-clause-valid
returns-clause-valid g c = runs_are_valid

pub returns-clause-fields : goal.returns-clause-fields
returns-clause-fields g c = runs_agree

pub returns-clause-joins : goal.returns-clause-joins
returns-clause-joins g c = runs_join

pub returns-clause-below : goal.returns-clause-below
returns-clause-below g c = runs_join_below
