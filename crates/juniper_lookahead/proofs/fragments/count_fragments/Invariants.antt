use Rattle.std.proofs.Common.{◌≡◌, ◌≤◌, ◌+◌, drop, map, length}
use Rattle.graphql_spec.specs.Documents.{fragments}
use Rattle.juniper_syntax.specs.DocumentView.{view_definition}
use Rattle.juniper_lookahead.proofs.fragments.count_fragments.Given as goal

abbrev pub invariant-loop-definition : goal.invariant-loop-definition
invariant-loop-definition g l =
    let view = view_definition g.S.ScalarValue.shown in
    (l.count + length (fragments (map view (drop l.definition-index l.document))) ≡ length (fragments (map view l.document))) × (l.count ≤ l.definition-index)
