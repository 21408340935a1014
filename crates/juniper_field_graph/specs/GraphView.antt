-- How a graph of written fields is seen (FieldsInSetCanMerge, 5.3.2).
use Rattle.std.specs.Prelude.{ℕ, false, List, [], ◌∷◌, ◌++◌, Option, Some, None, map, ◌≡◌}
use Rattle.std.specs.List.{slice_get}
use Rattle.graphql_spec.specs.Shown.{Shown, Name}
use Rattle.graphql_spec.specs.Positions.{Span, origin}
use Rattle.graphql_spec.specs.Documents.{Head}
use Rattle.graphql_spec.specs.Fields.{declared_type, field_of}
use Rattle.graphql_spec.specs.Schema.{Schema}
use Rattle.graphql_spec.specs.Types.{TypeRef}
use Rattle.graphql_spec.specs.Overlap.{Field}
use Rattle.juniper_merging.specs.MergingGraph.{FieldAt, view_vertex}
use Rattle.juniper_merging.specs.Standing.{AreNumbered, Grows, IsAt}
use Rattle.juniper_merging.specs.Groups.{group_in}
use Rattle.juniper_merging.specs.Sets.{IsInside, IsTable}
use Rattle.juniper_merging.specs.Tables.{below_in, table_of}
use Rattle.juniper_merging.specs.declared.graph.Vertex.{Vertex}
use Rattle.juniper_field_graph.specs.CallParts.{number_of_parts}
use Rattle.juniper_field_graph.specs.Keys.{number_at}
use Rattle.juniper_field_graph.specs.KindsView.{AreKept, IsOnce, heads_in, types_in}
use Rattle.juniper_field_graph.specs.declared.graph.FieldGraph.{FieldGraph}

-- a place, and a field of no name there; each number of a graph has a field
abbrev no_span : Span
no_span = record { start = origin; end = origin }

unfoldable pub no_head : Head
no_head = record { alias = None; name = record { item = []; span = no_span }; arguments = None; directives = []; has_set = false; span = no_span }

-- the field, if there is one
unfoldable pub head_or_none : Option Head → Head
head_or_none None = no_head
head_or_none (Some h) = h

module _ {S : Type 0} (shown : S → Shown) where
  -- the fields of each of its sets
  abbrev pub table_in : FieldGraph S → List (List ℕ)
  table_in g = table_of g.sets.items

  abbrev pub vertices_of : FieldGraph S → List FieldAt
  vertices_of g = map (view_vertex (table_in g)) g.vertices.items

  -- the fields that they stand for
  abbrev pub written_of : FieldGraph S → List Head
  written_of g = heads_in shown g.fields.items

  abbrev pub heads_of : FieldGraph S → ℕ → Head
  heads_of g i = head_or_none (slice_get (written_of g) i)

  -- each set that a field selects is there
  abbrev pub AreInside : FieldGraph S → Type 0
  AreInside g = (i : ℕ) (v : Vertex) (b : ℕ) → slice_get g.vertices.items i ≡ Some v → v.below ≡ Some b → IsInside (table_in g) b

  -- equal numbers say that types agree, and that names and arguments are the same; and what new numbers are found by is kept
  pub record IsGraphOf (s : Schema) (g : FieldGraph S) : Type 0 where
    pub numbered : AreNumbered s (vertices_of g) (heads_of g)
    pub kept : AreKept s (vertices_of g) (types_in shown g.fields.items) (written_of g) (heads_of g) (number_at g.keys)
        (number_of_parts g.calls) (group_in g.shapes)
    pub table : IsTable g.sets.items
    pub inside : AreInside g

  -- where the graph is one, t is the field's declared type on p, it has no argument twice, and the set that it selects is there, this follows
  abbrev pub WhereFits : Schema → FieldGraph S → TypeRef → Name → Head → Option ℕ → Type 0 → Type 0
  WhereFits s g t p h below conclusion = IsGraphOf s g → t ≡ declared_type (field_of s p h.name.item) → IsOnce h →
      ((b : ℕ) → below ≡ Some b → IsInside (table_in g) b) → conclusion

  -- a field on the type p, which selects the fields of this set, now stands at i
  pub record IsPushed (s : Schema) (old new : FieldGraph S) (p : Name) (h : Head) (below : Option ℕ) (i : ℕ) : Type 0 where
    pub graph : IsGraphOf s new
    pub sets : table_in new ≡ table_in old
    pub grows : Grows (vertices_of old) (vertices_of new) (heads_of old) (heads_of new)
    pub vertex : FieldAt
    pub added : vertices_of new ≡ vertices_of old ++ vertex ∷ []
    pub selects : vertex.below ≡ below_in (table_in old) below
    pub stands : (x : Field) → x.parent ≡ p → x.occurrence.head ≡ h → IsAt s (vertices_of new) (heads_of new) x i vertex
