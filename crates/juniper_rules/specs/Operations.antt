-- How many operations a document has.
use Rattle.std.specs.Prelude.{◌≡◌, ℕ, length}
use Rattle.graphql_spec.specs.Documents.{Document, operations}

-- it has so many
abbrev pub OperationsOf : ℕ → Document → Type 0
OperationsOf n d = n ≡ length (operations d)
