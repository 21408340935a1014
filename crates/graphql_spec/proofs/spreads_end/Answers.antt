use Rattle.graphql_spec.proofs.spreads_end.Goals as goal
use Rattle.graphql_spec.proofs.KnownSpreads.{names_end_spreads, names_expand_in_place, names_know_spreads}

pub returns-clause-cycles : goal.returns-clause-cycles
returns-clause-cycles c = names_end_spreads

pub returns-clause-expansion : goal.returns-clause-expansion
returns-clause-expansion c = names_expand_in_place

pub returns-clause-spreads : goal.returns-clause-spreads
returns-clause-spreads c = names_know_spreads
