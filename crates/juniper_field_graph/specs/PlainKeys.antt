-- Documents in which fields of one response key are alike, in whichever selection sets they stand: they merge (5.3.2).
use Rattle.std.specs.Prelude.{Bool, not, ◌&&◌, ◌||◌, List, [], ◌∷◌, ◌++◌, Option, Some, None}
use Rattle.std.specs.List.{flat_map, list_all}
use Rattle.std.specs.Str.{bytes_eq}
use Rattle.graphql_spec.specs.Shown.{Name}
use Rattle.graphql_spec.specs.Types.{innermost}
use Rattle.graphql_spec.specs.Documents.{Head, Selections, end, field, spread, inline, Definition, operation, fragment, Document, name_or, response_key}
use Rattle.graphql_spec.specs.Schema.{Schema}
use Rattle.graphql_spec.specs.Fields.{field_of, declared_type}
use Rattle.graphql_spec.specs.Placed.{Placed, root_type}
use Rattle.graphql_spec.specs.Merging.{types_agree}
use Rattle.graphql_spec.specs.Laws.{In}
use Rattle.juniper_field_graph.specs.KindsView.{IsOnce, same_call}

module _ (s : Schema) where
  -- a field on its parent type, with its declaration
  unfoldable pub placed_on : Name → Head → Placed
  placed_on p h = record { parent = p; head = h; declared = field_of s p h.name.item }

  -- the fields that are written in selections on the type p, at any depth; those of a fragment are written in its definition
  unfoldable pub written_on : Name → Selections → List Placed
  written_on p end = []
  written_on p (field h below rest) = placed_on p h ∷ (written_on (innermost (declared_type (field_of s p h.name.item))) below ++ written_on p rest)
  written_on p (spread x rest) = written_on p rest
  written_on p (inline x below rest) = written_on (name_or x.condition p) below ++ written_on p rest

  -- those in selections on a type, where there is one
  unfoldable pub written_if : Option Name → Selections → List Placed
  written_if None set = []
  written_if (Some p) set = written_on p set

  -- those in a definition; none where an operation's root type is absent
  unfoldable pub written_in : Definition → List Placed
  written_in (operation o) = written_if (root_type s o.kind) o.selections
  written_in (fragment f) = written_on f.condition.item f.selections

  -- the fields have one name and the same arguments, and their declared types agree
  unfoldable pub is_like : Placed → Placed → Bool
  is_like x y = same_call x.head y.head && types_agree s (declared_type x.declared) (declared_type y.declared)

  -- each two fields of one response key are alike
  unfoldable pub are_plain : List Placed → Bool
  are_plain xs = list_all (λ x. list_all (λ y. not (bytes_eq (response_key x.head) (response_key y.head)) || is_like x y) xs) xs

  -- each two fields of one response key that are written in the document are alike
  unfoldable pub has_plain_keys : Document → Bool
  has_plain_keys d = are_plain (flat_map written_in d)

-- no field has an argument twice
abbrev pub AreOnce : List Placed → Type 0
AreOnce xs = (x : Placed) → In x xs → IsOnce x.head
