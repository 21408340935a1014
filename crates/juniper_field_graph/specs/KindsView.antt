-- How a new vertex gets its numbers, and what a graph keeps for this.
use Rattle.std.specs.Prelude.{ℕ, Bool, false, not, cond, nat_eq, ◌&&◌, List, Option, Some, None, map, length, ◌≡◌, ◌<◌}
use Rattle.std.specs.List.{slice_get, find}
use Rattle.std.specs.Str.{bytes_eq}
use Rattle.graphql_spec.specs.Shown.{Shown, Name}
use Rattle.graphql_spec.specs.Types.{TypeRef}
use Rattle.graphql_spec.specs.Documents.{Head, response_key, written}
use Rattle.graphql_spec.specs.Written.{arguments_repeat}
use Rattle.graphql_spec.specs.Constants.{same_members}
use Rattle.graphql_spec.specs.Arguments.{written_meaning}
use Rattle.graphql_spec.specs.Schema.{Schema}
use Rattle.graphql_spec.specs.Fields.{field_of, declared_type}
use Rattle.graphql_spec.specs.Merging.{types_agree}
use Rattle.graphql_spec.specs.Laws.{In}
use Rattle.juniper_meta.specs.MetaView.{view_type}
use Rattle.juniper_merging.specs.MergingGraph.{FieldAt}
use Rattle.juniper_field_graph.specs.CallParts.{Part, call_parts}
use Rattle.juniper_field_graph.specs.Keys.{AreOneEach}
use Rattle.juniper_syntax.specs.DocumentView.{view_field}
use Rattle.juniper_field_graph.specs.declared.graph.WrittenField.{WrittenField}

module _ {S : Type 0} (shown : S → Shown) where
  abbrev pub types_in : List (WrittenField S) → List TypeRef
  types_in fs = map (λ f. view_type f.declared_type.now) fs

  abbrev pub heads_in : List (WrittenField S) → List Head
  heads_in fs = map (λ f. view_field shown f.field.now) fs

-- there is a type, and it agrees with t
unfoldable pub has_type : Schema → TypeRef → Option TypeRef → Bool
has_type s t None = false
has_type s t (Some u) = types_agree s u t

-- one name, and the same arguments
abbrev pub same_call : Head → Head → Bool
same_call g h = bytes_eq g.name.item h.name.item && same_members (written_meaning (written g.arguments)) (written_meaning (written h.arguments))

-- no argument of the field is written twice
abbrev pub IsOnce : Head → Type 0
IsOnce h = arguments_repeat (written h.arguments) ≡ false

-- the number of a vertex, else n
unfoldable pub number_or : (FieldAt → ℕ) → ℕ → Option FieldAt → ℕ
number_or number n None = n
number_or number n (Some v) = number v

-- the vertex of the first of these kinds that is alike
unfoldable pub first_alike : List FieldAt → Option ℕ → Option FieldAt
first_alike vs None = None
first_alike vs (Some r) = slice_get vs r

-- the number of the first kind that is alike; where none is, the number of a new vertex
unfoldable pub number_among : (FieldAt → ℕ) → List FieldAt → (ℕ → Bool) → List ℕ → ℕ
number_among number vs alike kinds = number_or number (length vs) (first_alike vs (find alike kinds))

-- one of these kinds has the number of v
abbrev pub HasKind : (FieldAt → ℕ) → List FieldAt → List ℕ → FieldAt → Type 0
HasKind number vs kinds v = (r : ℕ) × (w : FieldAt) × In r kinds × (slice_get vs r ≡ Some w) × (number w ≡ number v)

-- two fields agree in everything but what they select
unfoldable pub are_alike : FieldAt → FieldAt → Bool
are_alike v w =
    nat_eq v.shape w.shape && (nat_eq v.call w.call && (cond v.on_object w.on_object (not w.on_object) && (bytes_eq v.parent w.parent && nat_eq v.key w.key)))

-- each vertex has its field's declared type and the numbers of its response key and of its call, and no two of these have one number;
-- the shapes of a response key are vertices that have it, one at least of each number there
pub record AreKept (s : Schema) (vs : List FieldAt) (ts : List TypeRef) (hs : List Head) (heads : ℕ → Head) (names : Name → Option ℕ)
    (calls : List Part → Option ℕ) (shapes : ℕ → List ℕ) : Type 0 where
  pub typed : length ts ≡ length vs
  pub headed : length hs ≡ length vs
  pub types : (i : ℕ) (v : FieldAt) → slice_get vs i ≡ Some v → slice_get ts i ≡ Some (declared_type (field_of s v.parent (heads i).name.item))
  pub named : (i : ℕ) (v : FieldAt) → slice_get vs i ≡ Some v → names (response_key (heads i)) ≡ Some v.key
  pub called : (i : ℕ) (v : FieldAt) → slice_get vs i ≡ Some v → calls (call_parts v.key (heads i)) ≡ Some v.call
  pub one_name : AreOneEach names (length vs)
  pub one_call : AreOneEach calls (length vs)
  pub keyed : (k r : ℕ) → In r (shapes k) → (v : FieldAt) × (slice_get vs r ≡ Some v) × (v.key ≡ k)
  pub shaped : (i : ℕ) (v : FieldAt) → slice_get vs i ≡ Some v → HasKind (λ w. w.shape) vs (shapes v.key) v
  pub below : (i : ℕ) (v : FieldAt) → slice_get vs i ≡ Some v → v.shape < length vs
