use Rattle.graphql_spec.proofs.walking.walks_by_keys.Goals as goal
use Rattle.graphql_spec.proofs.WalkingKeys.{no-key-walked, one-more-key, all-keys-walked}

pub returns-clause-none : goal.returns-clause-none
returns-clause-none g c = λ W here above T m os tell pick. no-key-walked W here above T m os tell pick

pub returns-clause-more : goal.returns-clause-more
returns-clause-more g c = λ W here above T m os tell pick. one-more-key W here above T m os tell pick

pub returns-clause-all : goal.returns-clause-all
returns-clause-all g c = λ W. all-keys-walked W
