use Rattle.graphql_spec.proofs.Agreeing.{agrees-below}
use Rattle.graphql_spec.proofs.Deepening.{fields-are-shallower}
use Rattle.graphql_spec.proofs.Joining.{keys-stay-apart}
use Rattle.graphql_spec.proofs.FieldWalks.{none-walked, one-more-walked, walk-answers}
use Rattle.graphql_spec.proofs.completion_laws.walks_by_fields.Goals as goal

pub returns-clause-none : goal.returns-clause-none
returns-clause-none g c = λ tell W. none-walked tell W

pub returns-clause-more : goal.returns-clause-more
returns-clause-more g c = λ tell W. one-more-walked tell W

pub returns-clause-keys : goal.returns-clause-keys
returns-clause-keys g c = keys-stay-apart

pub returns-clause-shallower : goal.returns-clause-shallower
returns-clause-shallower g c = fields-are-shallower

pub returns-clause-agree : goal.returns-clause-agree
returns-clause-agree g c = λ W. agrees-below W

pub returns-clause-answers : goal.returns-clause-answers
returns-clause-answers g c = λ tell W. walk-answers tell W
