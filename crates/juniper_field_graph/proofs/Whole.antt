-- All answers together.
use Rattle.std.specs.Prelude.{ℕ, Bool, List, map, ◌≡◌}
use Rattle.std.proofs.Common.{sym, subst}
use Rattle.graphql_spec.specs.Shown.{Shown}
use Rattle.graphql_spec.specs.Documents.{Document, fragments}
use Rattle.graphql_spec.specs.Schema.{Schema}
use Rattle.graphql_spec.specs.Rules.{cannot_merge}
use Rattle.juniper_merging.specs.MergingGraph.{view_vertex}
use Rattle.juniper_merging.specs.Questions.{fields_of}
use Rattle.juniper_merging.specs.Sets.{IsTable}
use Rattle.juniper_merging.specs.Tables.{table_of}
use Rattle.juniper_merging.specs.declared.graph.Graph.{Graph}
use Rattle.juniper_field_graph.specs.Gathering.{AreGathered, IsAnswer, Pairwise}
use Rattle.juniper_field_graph.specs.GraphView.{heads_of, table_in, vertices_of}
use Rattle.juniper_field_graph.specs.declared.graph.FieldGraph.{FieldGraph}
use Rattle.juniper_field_graph.proofs.Judging.{definitions-judged}

module _ {S : Type 0} (shown : S → Shown) (s : Schema) (d : Document) where
  pub all-found : (old new : FieldGraph S) (graph : Graph) (lists : List (List ℕ)) (found : List Bool) → graph.vertices.now ≡ new.vertices.items →
      graph.sets.now ≡ new.sets.items → AreGathered shown s (fragments d) old new d lists →
      (IsTable graph.sets.now → Pairwise (IsAnswer (fields_of graph) (table_of graph.sets.now)) lists found) → found ≡ map (cannot_merge s d) d
  all-found old new graph lists found vertices sets gathered answered =
      let told : Pairwise (IsAnswer (fields_of graph) (table_of graph.sets.now)) lists found = answered (subst IsTable (sym sets) gathered.grown.graph.table) in
      let same : fields_of graph ≡ vertices_of shown new = λ k. map (view_vertex (table_of (sets k))) (vertices k) in
      definitions-judged s d (vertices_of shown new) (heads_of shown new) (table_in shown new) gathered.grown.graph.numbered d lists found gathered.listed
      (subst (λ vs. Pairwise (IsAnswer vs (table_in shown new)) lists found) same
      (subst (λ xs. Pairwise (IsAnswer (fields_of graph) (table_of xs)) lists found) sets told))
