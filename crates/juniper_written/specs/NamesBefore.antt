-- The names of earlier definitions (5.2.1.1, 5.5.1.1).
use Rattle.std.specs.Prelude.{◌≡◌, List}
use Rattle.std.specs.Option.{is_some}
use Rattle.graphql_spec.specs.Shown.{Name}
use Rattle.graphql_spec.specs.Documents.{Definition, fragments}
use Rattle.graphql_spec.specs.Fragments.{fragment_of}
use Rattle.graphql_spec.specs.Rules.{names_operation}
use Rattle.juniper_written.specs.WrittenView.{has_name}
use Rattle.juniper_written.specs.declared.earlier.Earlier.{Earlier}

-- they are the names of these operations, and of these fragments
abbrev pub IsEarlier : Earlier → List Definition → Type 0
IsEarlier e ds = ((n : Name) → has_name e.operations n ≡ names_operation ds n) × ((n : Name) → has_name e.fragments n ≡ is_some (fragment_of (fragments ds) n))
