use Rattle.std.proofs.Common.{◌≡◌, ◌-◌, drop, length, map}
use Rattle.graphql_spec.specs.Shown.{Name}
use Rattle.graphql_spec.specs.Documents.{fragments}
use Rattle.juniper_syntax.specs.DocumentView.{view_definition}
use Rattle.juniper_lookahead.specs.FragmentView.{fragment_at, fragment_in_order, fragment_named}
use Rattle.juniper_lookahead.proofs.fragments.fragments_of.Given as goal

-- the fragments of the last definitions are there
abbrev pub invariant-loop-index : goal.invariant-loop-index
invariant-loop-index g l =
    let shown = g.S.ScalarValue.shown in
    let last = fragments (map (view_definition shown) (drop (length l.document - l.index) l.document)) in
    record {
      in_order : (k : Name) → fragment_in_order shown l.ordered k ≡ fragment_named last k;
      lent : (k : Name) → fragment_at shown l.lent k ≡ fragment_named last k;
    }
