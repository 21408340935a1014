use Rattle.std.proofs.Common.{◌≡◌, List, None, map}
use Rattle.graphql_spec.specs.Documents as documents
use Rattle.graphql_spec.specs.Fields as fields
use Rattle.graphql_spec.specs.Fragments.{HasNoCycle}
use Rattle.graphql_spec.specs.Laws.{In}
use Rattle.graphql_spec.specs.Written.{selections_of}
use Rattle.juniper_meta.specs.MetaView.{view_type}
use Rattle.juniper_schema.specs.SchemaView.{view_schema}
use Rattle.juniper_syntax.specs.DocumentView.{view_definition}
use Rattle.juniper_field_graph.specs.Gathering.{AreListed, FindsItself, IsReadyIn, list_named, set_named}
use Rattle.juniper_field_graph.specs.GraphView.{IsGraphOf, heads_of, table_in, vertices_of}
use Rattle.juniper_field_graph.proofs.ListingSteps.{AreGatheredSoFar}
use Rattle.juniper_field_graph.proofs.overlapping_fields_can_be_merged.list_each.Given as goal

abbrev pub invariant-loop-definition : goal.invariant-loop-definition
invariant-loop-definition g l =
    let shown = g.S.ScalarValue.shown in
    let s = view_schema shown l.known.schema.now in
    (fs : List documents.Fragment) → HasNoCycle fs → view_type l.known.undeclared.now ≡ fields.declared_type None →
    IsGraphOf shown s l.initial.gathered.graph →
    ((x : documents.Definition) → In x (map (view_definition shown) l.document) → FindsItself shown l.known fs x) →
    AreListed s fs (vertices_of shown l.initial.gathered.graph) (heads_of shown l.initial.gathered.graph) (table_in shown l.initial.gathered.graph)
    (list_named l.listed) →
    ((x : documents.Definition) → In x (map (view_definition shown) l.document) →
    IsReadyIn shown s fs l.initial.gathered.graph (set_named l.known.fragments.now) (selections_of x)) →
    AreGatheredSoFar shown s fs l.initial.gathered.graph l.gathered.graph l.document (map (λ v. v.items) l.lists.items) l.definition-index
