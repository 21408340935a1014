-- An empty graph, and one with a vertex more.
use Rattle.std.specs.Prelude.{ℕ, List, [], ◌∷◌, ◌++◌, ◌≡◌, Option, None, Some, length, map}
use Rattle.std.specs.List.{slice_get}
use Rattle.std.specs.Option.{unwrap_or}
use Rattle.std.proofs.lemmas.List.{length-map, map-append}
use Rattle.std.proofs.Common.{refl, sym, ap, ◌∙◌, inl, inr, subst}
use Rattle.graphql_spec.specs.Shown.{Shown}
use Rattle.graphql_spec.specs.Types.{TypeRef}
use Rattle.graphql_spec.specs.Documents.{Head, response_key}
use Rattle.graphql_spec.specs.Schema.{Schema}
use Rattle.graphql_spec.specs.Fields.{declared_type, field_of, is_object, type_named}
use Rattle.graphql_spec.specs.Laws.{In}
use Rattle.juniper_merging.specs.MergingGraph.{FieldAt, view_vertex}
use Rattle.juniper_merging.specs.Standing.{AreNumbered, Grows}
use Rattle.juniper_merging.specs.Groups.{group_in}
use Rattle.juniper_merging.specs.Sets.{IsInside, IsTable}
use Rattle.juniper_merging.specs.Tables.{table_of}
use Rattle.juniper_merging.specs.declared.graph.Vertex.{Vertex}
use Rattle.juniper_merging.specs.declared.sets.FieldSet.{FieldSet}
use Rattle.juniper_merging.proofs.Grouping.{empty-groups}
use Rattle.juniper_meta.specs.MetaView.{view_type}
use Rattle.juniper_syntax.specs.DocumentView.{view_field}
use Rattle.juniper_field_graph.specs.GraphView.{IsGraphOf, IsPushed, head_or_none, heads_of, table_in, vertices_of, written_of}
use Rattle.juniper_field_graph.specs.Keys.{IsNumbered, number_at}
use Rattle.juniper_field_graph.specs.CallParts.{call_parts, number_of_parts}
use Rattle.juniper_field_graph.specs.KindsView.{AreKept, has_type, heads_in, number_among, types_in}
use Rattle.juniper_field_graph.specs.declared.graph.FieldGraph.{FieldGraph}
use Rattle.juniper_field_graph.specs.declared.graph.WrittenField.{WrittenField}
use Rattle.juniper_field_graph.proofs.CallNumbers.{no-calls}
use Rattle.juniper_field_graph.proofs.Places.{no-numbers}
use Rattle.juniper_field_graph.proofs.Numbering.{last-is}
use Rattle.juniper_field_graph.proofs.SetTables.{empty-table, one-of}
use Rattle.juniper_field_graph.proofs.Pushing.{IsAdded, first-same, has-grown, head_in, still-kept, still-numbered}

none-at : {A B : Type 0} (xs : List A) → xs ≡ [] → (i : ℕ) (x : A) → slice_get xs i ≡ Some x → B
none-at xs none i x e = let f : slice_get [] i ≡ Some x = subst (λ ys. slice_get ys i ≡ Some x) none e in cc

none-some : {A B : Type 0} {o : Option A} {x : A} → o ≡ None → o ≡ Some x → B
none-some e f = cc

module _ {S : Type 0} (shown : S → Shown) (s : Schema) where
  pub empty-graph : (g : FieldGraph S) → g.vertices.items ≡ [] → g.sets.items ≡ [] → g.fields.items ≡ [] → g.keys.entries ≡ [] →
      g.calls.entries ≡ [] → g.shapes.entries ≡ [] → IsGraphOf shown s g
  empty-graph g none setless fieldless keyless callless shapeless =
      let bare : vertices_of shown g ≡ [] = ap (map (view_vertex (table_in shown g))) none in
      record {
        numbered = record {
          keys = λ i j v w e f. none-at (vertices_of shown g) bare i v e;
          shapes = λ i j v w e f k. none-at (vertices_of shown g) bare i v e;
          calls = λ i j v w e f k. none-at (vertices_of shown g) bare i v e;
        };
        kept = record {
          typed = rw (none, fieldless) refl;
          headed = rw (none, fieldless) refl;
          types = λ i v e. none-at (vertices_of shown g) bare i v e;
          named = λ i v e. none-at (vertices_of shown g) bare i v e;
          called = λ i v e. none-at (vertices_of shown g) bare i v e;
          one_name = record {
            apart = λ k l n e f. none-some (no-numbers g.keys keyless k) e;
            least = λ k n e. none-some (no-numbers g.keys keyless k) e;
          };
          one_call = record {
            apart = λ k l n e f. none-some (no-calls g.calls callless k) e;
            least = λ k n e. none-some (no-calls g.calls callless k) e;
          };
          keyed = λ k r i. absurd (subst (In r) (empty-groups g.shapes shapeless k) i);
          shaped = λ i v e. none-at (vertices_of shown g) bare i v e;
          below = λ i v e. none-at (vertices_of shown g) bare i v e;
        };
        table = empty-table g.sets.items setless;
        inside = λ i v b e. none-at g.vertices.items none i v e;
      }

  -- the field's vertex is put at the end, with its numbers
  pub record IsMade (old : FieldGraph S) (v : Vertex) (f : WrittenField S) : Type 0 where
    pub typed : view_type f.declared_type.now ≡ declared_type (field_of s v.parent.now (view_field shown f.field.now).name.item)
    pub on_object : v.on_object ≡ is_object (type_named s v.parent.now)
    pub shape : v.shape ≡ number_among (λ w. w.shape) (vertices_of shown old)
        (λ r. has_type s (view_type f.declared_type.now) (slice_get (types_in shown old.fields.items) r))
        (group_in old.shapes v.key)

  module _ (old new : FieldGraph S) (v : Vertex) (f : WrittenField S) (g : IsGraphOf shown s old) (made : IsMade old v f) (n : ℕ)
      (sets : new.sets.items ≡ old.sets.items) (below : (b : ℕ) → v.below ≡ Some b → IsInside (table_in shown old) b)
      (count : n ≡ length old.vertices.items)
      (vertices : new.vertices.items ≡ old.vertices.items ++ v ∷ []) (fields : new.fields.items ≡ old.fields.items ++ f ∷ [])
      (keys : IsNumbered (response_key (view_field shown f.field.now)) v.key n (number_at old.keys) (number_at new.keys))
      (calls : IsNumbered (call_parts v.key (view_field shown f.field.now)) v.call n (number_of_parts old.calls) (number_of_parts new.calls))
      (added : IsAdded v.key n (group_in old.shapes) (group_in new.shapes)) (own-shape : v.shape ≡ n → In n (group_in new.shapes v.key)) where
    abbrev vs : List FieldAt
    vs = vertices_of shown old

    abbrev ts : List TypeRef
    ts = types_in shown old.fields.items

    abbrev hs : List Head
    hs = written_of shown old

    abbrev x : FieldAt
    x = view_vertex (table_in shown old) v

    abbrev t : TypeRef
    t = view_type f.declared_type.now

    abbrev h : Head
    h = view_field shown f.field.now

    is : n ≡ length vs
    is = count ∙ sym (length-map old.vertices.items (view_vertex (table_in shown old)))

    vertices-are : vertices_of shown new ≡ vs ++ x ∷ []
    vertices-are = (λ k. map (view_vertex (table_of (sets k))) (vertices k))
        ∙ map-append (view_vertex (table_in shown old)) old.vertices.items (v ∷ [])

    types-are : types_in shown new.fields.items ≡ ts ++ t ∷ []
    types-are = ap (types_in shown) fields ∙ map-append (λ (f : WrittenField S). view_type f.declared_type.now) old.fields.items (f ∷ [])

    heads-are : written_of shown new ≡ hs ++ h ∷ []
    heads-are = ap (heads_in shown) fields ∙ map-append (λ (f : WrittenField S). view_field shown f.field.now) old.fields.items (f ∷ [])

    added' : IsAdded x.key (length vs) (group_in old.shapes) (group_in new.shapes)
    unfolding view_vertex
    added' = subst (λ m. IsAdded v.key m (group_in old.shapes) (group_in new.shapes)) is added

    keys' : IsNumbered (response_key h) x.key (length vs) (number_at old.keys) (number_at new.keys)
    unfolding view_vertex
    keys' = subst (λ m. IsNumbered (response_key h) v.key m (number_at old.keys) (number_at new.keys)) is keys

    calls' : IsNumbered (call_parts x.key h) x.call (length vs) (number_of_parts old.calls) (number_of_parts new.calls)
    unfolding view_vertex
    calls' = subst (λ m. IsNumbered (call_parts v.key h) v.call m (number_of_parts old.calls) (number_of_parts new.calls)) is calls

    own-shape' : x.shape ≡ length vs → In (length vs) (group_in new.shapes x.key)
    unfolding view_vertex
    own-shape' = subst (λ m. v.shape ≡ m → In m (group_in new.shapes v.key)) is own-shape

    numbered-now : AreNumbered s (vertices_of shown new) (heads_of shown new)
    unfolding view_vertex
    numbered-now = rw (vertices-are) (subst (λ gs. AreNumbered s (vs ++ x ∷ []) (head_in gs)) (sym heads-are)
        (still-numbered s vs ts hs (number_at old.keys) (number_at new.keys) (number_of_parts old.calls) (number_of_parts new.calls) (group_in old.shapes)
        (group_in new.shapes) x t h g.numbered g.kept made.typed keys' calls' added' made.shape own-shape'))

    kept-now : AreKept s (vertices_of shown new) (types_in shown new.fields.items) (written_of shown new) (heads_of shown new) (number_at new.keys)
        (number_of_parts new.calls) (group_in new.shapes)
    unfolding view_vertex
    kept-now = rw (vertices-are, types-are) (subst (λ gs. AreKept s (vs ++ x ∷ []) (ts ++ t ∷ []) gs (head_in gs) (number_at new.keys)
        (number_of_parts new.calls) (group_in new.shapes)) (sym heads-are)
        (still-kept s vs ts hs (number_at old.keys) (number_at new.keys) (number_of_parts old.calls) (number_of_parts new.calls) (group_in old.shapes)
        (group_in new.shapes) x t h g.numbered g.kept made.typed keys' calls' added' made.shape own-shape'))

    grown-now : Grows vs (vertices_of shown new) (heads_of shown old) (heads_of shown new)
    unfolding view_vertex
    grown-now = rw (vertices-are) (subst (λ gs. Grows vs (vs ++ x ∷ []) (head_in hs) (head_in gs)) (sym heads-are)
        (has-grown s vs ts hs (number_at old.keys) (number_at new.keys) (number_of_parts old.calls) (number_of_parts new.calls) (group_in old.shapes)
        (group_in new.shapes) x t h g.numbered g.kept made.typed keys' calls' added' made.shape own-shape'))

    there-now : slice_get (vertices_of shown new) n ≡ Some x
    there-now = ap (λ ws. slice_get ws n) vertices-are ∙ last-is vs x n (sym is)

    head-now : heads_of shown new n ≡ h
    unfolding head_or_none
    head-now = ap (λ gs. head_or_none (slice_get gs n)) heads-are ∙ ap head_or_none (last-is hs h n (g.kept.headed ∙ sym is))

    inside-now : (i : ℕ) (w : Vertex) (b : ℕ) → slice_get new.vertices.items i ≡ Some w → w.below ≡ Some b → IsInside (table_in shown new) b
    inside-now i w b e is = subst (λ (xs : List FieldSet). IsInside (table_of xs) b) (sym sets)
        (elim (one-of old.vertices.items v w i (subst (λ ws. slice_get ws i ≡ Some w) vertices e)) [
          | inl q ↦ g.inside i w b q is
          | inr q ↦ below b (ap (λ (y : Vertex). y.below) q ∙ is)
        ])

    pub pushed : (first : Option ℕ) → ((r : ℕ) → first ≡ Some r → slice_get vs r ≡ Some x) → (i : ℕ) → i ≡ unwrap_or first n →
        IsPushed shown s old new v.parent.now h v.below i
    unfolding view_vertex
    pushed first like i chosen = record {
      graph = record { numbered = numbered-now; kept = kept-now; table = subst IsTable (sym sets) g.table; inside = inside-now };
      sets = ap table_of sets;
      grows = grown-now;
      vertex = x;
      added = vertices-are;
      selects = refl;
      stands = λ y p e. record {
        there = ap (λ ws. slice_get ws i) vertices-are
            ∙ (ap (slice_get (vs ++ x ∷ [])) chosen ∙ (first-same vs x first n is like ∙ last-is vs x n (sym is)));
        like = n;
        like_there = there-now;
        head = head-now ∙ sym e;
        parent = sym p;
        on_object = made.on_object ∙ ap (λ m. is_object (type_named s m)) (sym p);
      };
    }
