-- A graph with a set more.
use Rattle.std.specs.Prelude.{ℕ, List, [], ◌∷◌, ◌++◌, ◌≡◌, Some, map}
use Rattle.std.specs.List.{slice_get}
use Rattle.std.proofs.Common.{sym, ap, subst, ◌∙◌}
use Rattle.graphql_spec.specs.Shown.{Shown}
use Rattle.graphql_spec.specs.Schema.{Schema}
use Rattle.juniper_merging.specs.MergingGraph.{view_vertex}
use Rattle.juniper_merging.specs.Groups.{group_in}
use Rattle.juniper_merging.specs.Sets.{IsPut}
use Rattle.juniper_merging.specs.Standing.{AreNumbered}
use Rattle.juniper_field_graph.specs.Gathering.{IsSetMade}
use Rattle.juniper_field_graph.specs.GraphView.{IsGraphOf, head_or_none, heads_of, table_in, vertices_of, written_of}
use Rattle.juniper_field_graph.specs.CallParts.{number_of_parts}
use Rattle.juniper_field_graph.specs.Keys.{number_at}
use Rattle.juniper_field_graph.specs.KindsView.{AreKept, heads_in, types_in}
use Rattle.juniper_field_graph.specs.declared.graph.FieldGraph.{FieldGraph}
use Rattle.juniper_field_graph.proofs.SetTables.{inside-more, vertices-still}

module _ {S : Type 0} (shown : S → Shown) (s : Schema) where
  pub set-made : (old new : FieldGraph S) (sets then all : List ℕ) (b : ℕ) → new.vertices ≡ old.vertices → new.fields ≡ old.fields → new.keys ≡ old.keys →
      new.calls ≡ old.calls → new.shapes ≡ old.shapes → IsGraphOf shown s old → IsPut old.sets.items new.sets.items all b → then ≡ sets ++ b ∷ [] →
      IsSetMade shown s old new sets then all b
  unfolding head_or_none
  set-made old new sets then all b vertices fields keys calls shapes is put added =
      let t = table_in shown old in
      let u = table_in shown new in
      let same : vertices_of shown new ≡ vertices_of shown old = ap (λ v. map (view_vertex u) v.items) vertices
      ∙ vertices-still t u put.more old.vertices.items is.inside in
      let words : written_of shown new ≡ written_of shown old = ap (λ f. heads_in shown f.items) fields in
      let numbered : AreNumbered s (vertices_of shown new) (heads_of shown new) = subst (λ vs. AreNumbered s vs (heads_of shown new)) (sym same)
      (subst (λ hs. AreNumbered s (vertices_of shown old) (λ i. head_or_none (slice_get hs i))) (sym words) is.numbered) in
      record {
        graph = record {
          numbered = numbered;
          kept = subst (λ vs. AreKept s vs (types_in shown new.fields.items) (written_of shown new) (heads_of shown new) (number_at new.keys)
              (number_of_parts new.calls) (group_in new.shapes)) (sym same)
              (subst (λ g. AreKept s (vertices_of shown old) (types_in shown new.fields.items) (written_of shown new) (heads_of shown new)
              (number_at new.keys) (number_of_parts new.calls) (group_in g)) (sym shapes)
              (subst (λ c. AreKept s (vertices_of shown old) (types_in shown new.fields.items) (written_of shown new) (heads_of shown new)
              (number_at new.keys) (number_of_parts c) (group_in old.shapes)) (sym calls)
              (subst (λ k. AreKept s (vertices_of shown old) (types_in shown new.fields.items) (written_of shown new) (heads_of shown new) (number_at k)
              (number_of_parts old.calls) (group_in old.shapes)) (sym keys)
              (subst (λ f. AreKept s (vertices_of shown old) (types_in shown f.items) (heads_in shown f.items)
              (λ i. head_or_none (slice_get (heads_in shown f.items) i)) (number_at old.keys) (number_of_parts old.calls) (group_in old.shapes)) (sym fields)
              is.kept))));
          table = put.table;
          inside = λ i v c e f. inside-more t u put.more c (is.inside i v c (subst (λ vs. slice_get vs.items i ≡ Some v) vertices e) f);
        };
        same = same;
        words = words;
        more = put.more;
        kept = put.kept;
        there = put.there;
        alike = put.alike;
        added = added;
      }
