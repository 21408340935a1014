-- Graphs that have all that they had.
use Rattle.std.specs.Prelude.{ℕ, List, Option}
use Rattle.std.specs.List.{slice_get}
use Rattle.std.proofs.Common.{sym, subst}
use Rattle.graphql_spec.specs.Shown.{Name, Shown}
use Rattle.graphql_spec.specs.Documents.{Head}
use Rattle.graphql_spec.specs.Schema.{Schema}
use Rattle.juniper_merging.specs.Standing.{Grows}
use Rattle.juniper_field_graph.specs.Gathering.{IsMore, IsSetMade}
use Rattle.juniper_field_graph.specs.GraphView.{IsGraphOf, IsPushed, head_or_none, heads_of, table_in, vertices_of}
use Rattle.juniper_field_graph.specs.declared.graph.FieldGraph.{FieldGraph}
use Rattle.juniper_field_graph.proofs.Leading.{grows-further, grows-itself}
use Rattle.juniper_field_graph.proofs.SetTables.{extends-further, extends-itself, extends-same}

module _ {S : Type 0} (shown : S → Shown) (s : Schema) where
  pub more-itself : (g : FieldGraph S) → IsGraphOf shown s g → IsMore shown s g g
  more-itself g is = record {
    graph = is;
    grows = grows-itself (vertices_of shown g) (heads_of shown g);
    more = extends-itself (table_in shown g);
  }

  pub more-further : (a b c : FieldGraph S) → IsMore shown s a b → IsMore shown s b c → IsMore shown s a c
  more-further a b c m n = record {
    graph = n.graph;
    grows = grows-further (vertices_of shown a) (vertices_of shown b) (vertices_of shown c) (heads_of shown a) (heads_of shown b) (heads_of shown c) m.grows
        n.grows;
    more = extends-further (table_in shown a) (table_in shown b) (table_in shown c) m.more n.more;
  }

  pub more-pushed : (a b : FieldGraph S) {p : Name} {h : Head} {o : Option ℕ} {i : ℕ} → IsPushed shown s a b p h o i → IsMore shown s a b
  more-pushed a b is = record { graph = is.graph; grows = is.grows; more = extends-same (table_in shown a) (table_in shown b) is.sets }

  pub more-made : (a b : FieldGraph S) (sets then all : List ℕ) (i : ℕ) → IsSetMade shown s a b sets then all i → IsMore shown s a b
  unfolding head_or_none
  more-made a b sets then all i made = record {
    graph = made.graph;
    grows = subst (λ vs. Grows (vertices_of shown a) vs (heads_of shown a) (heads_of shown b)) (sym made.same)
        (subst (λ hs. Grows (vertices_of shown a) (vertices_of shown a) (heads_of shown a) (λ j. head_or_none (slice_get hs j))) (sym made.words)
        (grows-itself (vertices_of shown a) (heads_of shown a)));
    more = made.more;
  }
