use Rattle.std.proofs.Common.{◌≡◌, ◌++◌, drop, map}
use Rattle.graphql_spec.specs.Documents.{Document, fragments}
use Rattle.juniper_syntax.specs.DocumentView.{view_fragment}
use Rattle.juniper_written.specs.WrittenView.{view_names}
use Rattle.juniper_written.specs.Order.{found}
use Rattle.juniper_written.specs.SpreadsView.{AreFragmentsOf}
use Rattle.juniper_written.proofs.by_name.FragmentsByName.fragments_of.Given as goal

abbrev pub invariant-loop-name : goal.invariant-loop-name
invariant-loop-name g l = (d : Document) → AreFragmentsOf g.S.ScalarValue.shown l.self d →
    map (λ f. view_fragment g.S.ScalarValue.shown f.now) l.fragments.items ++ found (fragments d) (view_names (drop l.name-index l.names))
    ≡ found (fragments d) (view_names l.names)
