use Rattle.graphql_spec.proofs.requests.errors_are_one.Goals as goal
use Rattle.graphql_spec.proofs.OneErrorList.{errors-are-one, exact-errors-are-one, first-errors-are-one, responses-are-one}

pub returns-clause-lists : goal.returns-clause-lists
returns-clause-lists g c = errors-are-one

pub returns-clause-firsts : goal.returns-clause-firsts
returns-clause-firsts g c = first-errors-are-one

pub returns-clause-answers : goal.returns-clause-answers
returns-clause-answers g c = exact-errors-are-one

pub returns-clause-responses : goal.returns-clause-responses
returns-clause-responses g c = λ S. responses-are-one S
