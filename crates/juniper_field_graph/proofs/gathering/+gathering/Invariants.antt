use Rattle.std.proofs.Common.{List, None}
use Rattle.std.specs.Prelude.{◌≡◌}
use Rattle.graphql_spec.specs.Documents.{Fragment as SpecFragment}
use Rattle.graphql_spec.specs.Fields as fields
use Rattle.graphql_spec.specs.Fragments.{HasNoCycle}
use Rattle.juniper_meta.specs.MetaView.{view_type}
use Rattle.juniper_schema.specs.SchemaView.{view_schema}
use Rattle.juniper_syntax.specs.DocumentView.{view_selections}
use Rattle.juniper_field_graph.specs.Gathering.{IsReadyIn, set_named}
use Rattle.juniper_field_graph.specs.GraphView.{IsGraphOf}
use Rattle.juniper_field_graph.proofs.Steps.{IsSoFar}
use Rattle.juniper_field_graph.proofs.gathering.+gathering.Given as goal

abbrev pub invariant-gather_selections-loop-selection : goal.invariant-gather_selections-loop-selection
invariant-gather_selections-loop-selection g l =
    let shown = g.S.ScalarValue.shown in
    let s = view_schema shown l.known.schema.now in
    (fs : List SpecFragment) (ends : HasNoCycle fs) → view_type l.known.undeclared.now ≡ fields.declared_type None →
    IsGraphOf shown s l.initial.gathered.graph →
    IsReadyIn shown s fs l.initial.gathered.graph (set_named l.known.fragments.now) (view_selections shown l.selections) →
    IsSoFar shown s fs ends (set_named l.known.fragments.now) l.parent l.initial.gathered.graph l.gathered.graph l.initial.gathered.sets.items
    l.gathered.sets.items l.initial.numbers l.numbers l.selections l.selection-index
