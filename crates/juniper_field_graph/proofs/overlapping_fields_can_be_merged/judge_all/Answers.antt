use Rattle.std.proofs.Common.{map, subst}
use Rattle.graphql_spec.specs.Documents.{fragments}
use Rattle.graphql_spec.specs.Laws.{In}
use Rattle.graphql_spec.proofs.KnownSpreads.{names_end_spreads}
use Rattle.juniper_schema.specs.SchemaView.{view_schema}
use Rattle.juniper_syntax.specs.DocumentView.{view_definition}
use Rattle.juniper_field_graph.specs.Gathering.{IsAnswer, Pairwise, set_named}
use Rattle.juniper_merging.specs.Questions.{fields_of}
use Rattle.juniper_merging.specs.Tables.{table_of}
use Rattle.juniper_field_graph.specs.GraphView.{heads_of, table_in, vertices_of}
use Rattle.juniper_field_graph.proofs.Holding.{empty-lists, empty-sets}
use Rattle.juniper_field_graph.proofs.OwnNames.{own-fragment}
use Rattle.juniper_field_graph.proofs.WrittenOnce.{are-written, definitions-ready}
use Rattle.juniper_field_graph.proofs.Whole.{all-found}
use Rattle.juniper_field_graph.proofs.overlapping_fields_can_be_merged.judge_all.Goals as goal

pub returns : goal.returns
returns g c disabled are unknown names =
    let shown = g.S.ScalarValue.shown in
    let s = view_schema shown c.args.schema.now in
    let d = map (view_definition shown) c.args.document.now in
    let ends = names_end_spreads s disabled d names in
    let mid = c.hold_fragments.new.gathered.graph in
    let held = c.in_ok-hold_fragments.ensures (fragments d) ends unknown (are-written s disabled d names) (c.in_ok-order.ensures d are)
    (empty-sets c.new-held.result c.new-held.ensures.empty) (empty-lists c.new-listed.result c.new-listed.ensures.empty)
    (c.nothing_gathered-gathered.ensures s) in
    let gathered = c.in_ok-lists.ensures (fragments d) ends unknown held.grown.graph
    (λ x i f e. own-fragment s disabled d names f (subst (λ y. In y d) e i)) held.listed (definitions-ready s disabled d names (vertices_of shown mid)
    (heads_of shown mid) (table_in shown mid) (set_named c.hold_fragments.new.held) held.known) in
    let graph = c.as_graph-graph.result in
    all-found shown s d mid c.list_each.new.gathered.graph graph _ c.in_ok-found.found.items c.as_graph-graph.ensures.0
    c.as_graph-graph.ensures.1 gathered
    (λ is. subst (λ l. Pairwise (IsAnswer (fields_of graph) (table_of graph.sets.now)) (map (λ v. v.items) l) c.in_ok-found.found.items) c.deref.ensures.value
    (c.in_ok-found.ensures is))
