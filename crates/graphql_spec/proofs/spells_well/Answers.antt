use Rattle.graphql_spec.proofs.spells_well.Goals as goal
use Rattle.graphql_spec.proofs.SpelledNames.{spelled_are_named}
use Rattle.graphql_spec.proofs.SpelledNesting.{spelled_nest}

pub returns-clause-names : goal.returns-clause-names
returns-clause-names c = spelled_are_named

pub returns-clause-nesting : goal.returns-clause-nesting
returns-clause-nesting c = spelled_nest
