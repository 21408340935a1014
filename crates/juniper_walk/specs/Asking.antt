-- What is asked of nodes for the occurrences of a response key (6.4.2).
use Rattle.std.specs.Prelude.{◌≡◌, List, [], ◌∷◌, ◌++◌}
use Rattle.graphql_spec.specs.Documents.{Head, response_key}
use Rattle.graphql_spec.specs.Errors.{Place, key}
use Rattle.graphql_spec.specs.Selections.{Occurrence}

-- it is what the first of them asks, as it is written
pub record IsAskedOf {Q : Type 0} (asks : Head → Q → Type 0) (os : List Occurrence) (q : Q) : Type 0 where
  pub first : Occurrence
  pub others : List Occurrence
  pub some : os ≡ first ∷ others
  pub asked : asks first.head q

-- the last step of a path is their response key (7.1.2)
pub record IsPathOf (os : List Occurrence) (at : Place) : Type 0 where
  pub first : Occurrence
  pub others : List Occurrence
  pub some : os ≡ first ∷ others
  pub above : Place
  pub is : at ≡ above ++ key (response_key first.head) ∷ []
