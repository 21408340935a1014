use Rattle.std.proofs.Common.{◌≡◌, drop, map}
use Rattle.std.specs.Option.{option_or}
use Rattle.graphql_spec.specs.Shown.{Name}
use Rattle.graphql_spec.specs.Documents.{fragments}
use Rattle.graphql_spec.specs.Fragments.{fragment_of}
use Rattle.juniper_syntax.specs.DocumentView.{view_definition}
use Rattle.juniper_written.specs.SpreadsView.{fragment_at}
use Rattle.juniper_written.proofs.by_name.first_fragments.Given as goal

abbrev pub invariant-loop-definition : goal.invariant-loop-definition
invariant-loop-definition g l =
    let view = view_definition g.S.ScalarValue.shown in
    (k : Name) → option_or (fragment_at g.S.ScalarValue.shown l.first k) (fragment_of (fragments (map view (drop l.definition-index l.document))) k)
    ≡ fragment_of (fragments (map view l.document)) k
