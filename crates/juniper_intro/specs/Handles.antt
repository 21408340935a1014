-- How code may hold the nodes of introspection (4.2): by numbers in the lists of a schema, without its declarations.
use Rattle.std.specs.Prelude.{ℕ, zero, suc, Bool, false, ◌||◌, ◌≡◌, codes, cond, List, [], ◌∷◌, Option, option_map, unwrap_or, get_or, IsTrue}
use Rattle.std.specs.List.{filter, enumerate_from}
use Rattle.std.specs.Option.{is_some, option_and_then}
use Rattle.graphql_spec.specs.Shown.{Name}
use Rattle.graphql_spec.specs.Types.{TypeRef, named}
use Rattle.graphql_spec.specs.Inputs.{Variables}
use Rattle.graphql_spec.specs.Constants.{Members, find}
use Rattle.graphql_spec.specs.Display.{display}
use Rattle.graphql_spec.specs.Schema.{InputDeclaration, FieldDeclaration, EnumValue, DirectiveDeclaration, Shape, Schema, plain_field, plain_input}
use Rattle.graphql_spec.specs.BuiltIns.{value_named, directives}
use Rattle.graphql_spec.specs.Fields.{shape_of}
use Rattle.graphql_spec.specs.Executable.{is_executable}
use Rattle.graphql_spec.specs.Selections.{Forest}
use Rattle.graphql_spec.specs.Resolvers.{Tree, nothing, node, Reply, answered, World, world_of}
use Rattle.graphql_spec.specs.Rules.{is_introspection}
use Rattle.graphql_spec.specs.TypeList.{type_list}
use Rattle.graphql_spec.specs.SeenNodes.{map_tree, map_reply, IsSameRun}
use Rattle.graphql_spec.specs.Introspected.{is_deprecated, reason_of, own_name, of_type, declaration_of, declared_as, kind_of, description_of, url_of}
use Rattle.graphql_spec.specs.Introspected.{lists_field, own_fields, listed_interfaces, possible_types, lists_value, own_values, listed_inputs}
use Rattle.graphql_spec.specs.Introspection.{Introspected, schema_node, type_node, field_node, input_node, value_node, directive_node, says, tells, all_of}
use Rattle.graphql_spec.specs.Introspection.{if_any, answer_at, includes_deprecated, given_text, stands_on, introspect, RootedNode, user, introspected}
use Rattle.graphql_spec.specs.Introspection.{user_reply}
use Rattle.graphql_spec.specs.IntrospectionLaws.{introspection_world}

-- where an argument or an input field is declared
pub data InputPlace : Type 0 where
  of_field : ℕ → ℕ → ℕ → InputPlace
  of_input_object : ℕ → ℕ → InputPlace
  of_directive : ℕ → ℕ → InputPlace

-- where a reference to a type stands: nowhere but in the list of names, at a field, or at an argument or input field
pub data TypePlace : Type 0 where
  by_name : ℕ → TypePlace
  at_field : ℕ → ℕ → TypePlace
  at_input : InputPlace → TypePlace

-- a node; that of a type says how many non-nulls and lists were taken off the reference
pub data Handle : Type 0 where
  schema_handle : Handle
  type_handle : TypePlace → ℕ → Handle
  field_handle : ℕ → ℕ → Handle
  input_handle : InputPlace → Handle
  value_handle : ℕ → ℕ → Handle
  directive_handle : ℕ → Handle

-- its object type
unfoldable pub handle_type : Handle → Name
handle_type schema_handle = codes "__Schema"
handle_type (type_handle p d) = codes "__Type"
handle_type (field_handle i j) = codes "__Field"
handle_type (input_handle p) = codes "__InputValue"
handle_type (value_handle i j) = codes "__EnumValue"
handle_type (directive_handle i) = codes "__Directive"

-- ## What stands where there is nothing

abbrev pub no_field : FieldDeclaration
no_field = plain_field [] [] (named false [])

abbrev pub no_input : InputDeclaration
no_input = plain_input [] (named false [])

abbrev pub no_directive : DirectiveDeclaration
no_directive = record { name = []; locations = []; arguments = [] }

-- ## Numbers

-- what passes a test, each with its number in the whole list
unfoldable pub numbered : {A : Type 0} → (A → Bool) → List A → List (ℕ × A)
numbered passes xs = filter (λ p. passes p.1) (enumerate_from 0 xs)

-- a type without its outermost non-null or list, where it has one
unfoldable pub taken_off : ℕ → TypeRef → TypeRef
taken_off zero t = t
taken_off (suc d) t = unwrap_or (of_type (taken_off d t)) (taken_off d t)

-- the i-th directive
unfoldable pub directive_at : ℕ → DirectiveDeclaration
directive_at i = get_or directives i no_directive

-- ## Answers of what is held

-- the type of a name, by its number in the list of names
unfoldable pub called : (Name → ℕ) → Name → Tree Handle
called number n = node (type_handle (by_name (number n)) 0)

-- all arguments or input fields, each at its place
unfoldable pub inputs_at : (ℕ → InputPlace) → List InputDeclaration → Tree Handle
inputs_at place ds = all_of (λ p. node (input_handle (place p.0))) (enumerate_from 0 ds)

unfoldable pub field_held : ℕ → ℕ → FieldDeclaration → List (Name × Tree Handle)
field_held i j f = (codes "name", says f.name)
    ∷ (codes "description", if_any says f.description)
    ∷ (codes "args", inputs_at (of_field i j) f.arguments)
    ∷ (codes "type", node (type_handle (at_field i j) 0))
    ∷ (codes "isDeprecated", tells (is_deprecated f.deprecation))
    ∷ (codes "deprecationReason", if_any says (reason_of f.deprecation)) ∷ []

unfoldable pub input_held : InputPlace → InputDeclaration → List (Name × Tree Handle)
input_held place d = (codes "name", says d.name)
    ∷ (codes "description", if_any says d.description)
    ∷ (codes "type", node (type_handle (at_input place) 0))
    ∷ (codes "defaultValue", if_any (λ v. says (display v)) d.default) ∷ []

unfoldable pub value_held : EnumValue → List (Name × Tree Handle)
value_held v = (codes "name", says v.name)
    ∷ (codes "description", if_any says v.description)
    ∷ (codes "isDeprecated", tells (is_deprecated v.deprecation))
    ∷ (codes "deprecationReason", if_any says (reason_of v.deprecation)) ∷ []

unfoldable pub directive_held : ℕ → DirectiveDeclaration → List (Name × Tree Handle)
directive_held i d = (codes "name", says d.name)
    ∷ (codes "description", nothing)
    ∷ (codes "locations", all_of says d.locations)
    ∷ (codes "args", inputs_at (of_directive i) d.arguments)
    ∷ (codes "isRepeatable", tells false)
    ∷ (codes "onOperation", tells (stands_on d (codes "QUERY")))
    ∷ (
      codes "onFragment",
      tells (stands_on d (codes "FRAGMENT_DEFINITION")
          || (stands_on d (codes "INLINE_FRAGMENT") || stands_on d (codes "FRAGMENT_SPREAD"))),
    )
    ∷ (codes "onField", tells (stands_on d (codes "FIELD"))) ∷ []

-- the names of types are listed in some order
module _ (s : Schema) (names : List Name) where
  -- ## What the numbers mean

  -- what is declared at the i-th name
  unfoldable pub shape_at : ℕ → Option Shape
  shape_at i = shape_of (declaration_of s (get_or names i []))

  unfoldable pub field_at : ℕ → ℕ → FieldDeclaration
  field_at i j = get_or (unwrap_or (own_fields (shape_at i)) []) j no_field

  unfoldable pub value_at : ℕ → ℕ → EnumValue
  value_at i j = get_or (unwrap_or (own_values (shape_at i)) []) j (value_named [])

  unfoldable pub input_at : InputPlace → InputDeclaration
  input_at (of_field i j k) = get_or (field_at i j).arguments k no_input
  input_at (of_input_object i j) = get_or (unwrap_or (listed_inputs (shape_at i)) []) j no_input
  input_at (of_directive i j) = get_or (directive_at i).arguments j no_input

  unfoldable pub reference_at : TypePlace → TypeRef
  reference_at (by_name i) = named false (get_or names i [])
  reference_at (at_field i j) = (field_at i j).of_type
  reference_at (at_input p) = (input_at p).of_type

  -- the node that is held
  unfoldable pub meant : Handle → Introspected
  meant schema_handle = schema_node
  meant (type_handle p d) = type_node (taken_off d (reference_at p))
  meant (field_handle i j) = field_node (field_at i j)
  meant (input_handle p) = input_node (input_at p)
  meant (value_handle i j) = value_node (value_at i j)
  meant (directive_handle i) = directive_node (directive_at i)

-- each name that is known has a number in the list
module _ (s : Schema) (names : List Name) (number : Name → ℕ) where
  -- ## Answers of the schema and of types

  unfoldable pub schema_held : List (Name × Tree Handle)
  schema_held = (codes "description", nothing)
      ∷ (codes "types", all_of (λ e. called number e.key) (type_list s))
      ∷ (codes "queryType", called number s.query)
      ∷ (codes "mutationType", if_any (called number) s.mutation)
      ∷ (codes "subscriptionType", nothing)
      ∷ (codes "directives", all_of (λ p. node (directive_handle p.0)) (enumerate_from 0 directives)) ∷ []

  -- of the type t, which is held so, is declared as o, and has the number i where it is a name
  unfoldable pub type_held : TypePlace → ℕ → TypeRef → Option Shape → ℕ → Members → List (Name × Tree Handle)
  type_held place d t o i args = (codes "kind", if_any says (kind_of s t))
      ∷ (codes "name", if_any says (own_name t))
      ∷ (codes "description", if_any says (description_of (declared_as s t)))
      ∷ (codes "specifiedByURL", if_any says (url_of o))
      ∷ (codes "specifiedByUrl", if_any says (url_of o))
      ∷ (codes "fields", if_any (all_of (λ p. node (field_handle i p.0))) (option_map (numbered (lists_field (includes_deprecated args))) (own_fields o)))
      ∷ (codes "interfaces", if_any (all_of (called number)) (listed_interfaces o))
      ∷ (codes "possibleTypes", if_any (all_of (called number)) (option_and_then (λ n. possible_types s n o) (own_name t)))
      ∷ (codes "enumValues", if_any (all_of (λ p. node (value_handle i p.0))) (option_map (numbered (lists_value (includes_deprecated args))) (own_values o)))
      ∷ (codes "inputFields", if_any (inputs_at (of_input_object i)) (listed_inputs o))
      ∷ (codes "ofType", if_any (λ u. node (type_handle place (suc d))) (of_type t)) ∷ []

  -- what a node answers to its fields
  unfoldable pub held_answers : Handle → Members → List (Name × Tree Handle)
  held_answers schema_handle args = schema_held
  held_answers (type_handle place d) args =
      let t : TypeRef = taken_off d (reference_at s names place) in
      type_held place d t (shape_of (declared_as s t)) (number (unwrap_or (own_name t) [])) args
  held_answers (field_handle i j) args = field_held i j (field_at s names i j)
  held_answers (input_handle place) args = input_held place (input_at s names place)
  held_answers (value_handle i j) args = value_held (value_at s names i j)
  held_answers (directive_handle i) args = directive_held i (directive_at i)

  -- the answer of a node to a field
  unfoldable pub held_answer : Handle → Name → Members → Tree Handle
  held_answer h f args = answer_at f (held_answers h args)

  -- `__schema` and `__type(name:)`
  unfoldable pub root_held : Members → List (Name × Tree Handle)
  root_held args = (codes "__schema", node schema_handle) ∷ (
    codes "__type",
    if_any (λ n. cond (is_some (declaration_of s n)) (called number n) nothing) (given_text (find (codes "name") args)),
  ) ∷ []

  -- each known name stands at its number
  abbrev pub AllAreNamed : Type 0
  AllAreNamed = (n : Name) → IsTrue (is_some (declaration_of s n)) → get_or names (number n) [] ≡ n

  -- the world of nodes that are held so
  unfoldable pub held_world : Variables → World Handle
  held_world vars = world_of s vars handle_type (λ h f args. answered (held_answer h f args))

-- In a schema that can be executed, where each known name stands at its number, nodes may be held so: the execution is the same.
abbrev pub NumbersServe : Type 0
NumbersServe = (s : Schema) → IsTrue (is_executable s) → (names : List Name) (number : Name → ℕ) → AllAreNamed s names number →
    (vars : Variables) (T : Name) (h : Handle) (selected : Forest) →
    IsSameRun (held_world s names number vars) (introspection_world s vars) T h (meant s names h) selected

-- ## The root's nodes

-- code's own nodes: one for each of the user's, and one for each that is held by numbers
module _ {N R : Type 0} (of_user : N → R) (of_handle : Handle → R) (s : Schema) (names : List Name) (number : Name → ℕ) where
  -- the reply of a user's node, or of the root, which stands for the user's own
  unfoldable pub held_user_reply : (N → Name → Members → Reply N) → N → Name → Members → Reply R
  held_user_reply answer n f args =
      cond (is_introspection f) (answered (map_tree of_handle (answer_at f (root_held s names number args)))) (map_reply of_user (answer n f args))

  -- the reply of a node of introspection
  unfoldable pub held_reply : Handle → Name → Members → Reply R
  held_reply h f args = answered (map_tree of_handle (held_answer s names number h f args))

  -- however code sees its nodes, these are the replies of the root's nodes that are meant
  abbrev pub RepliesServe : Type 0
  RepliesServe = (sees : R → RootedNode N) → ((n : N) → sees (of_user n) ≡ user n) → ((h : Handle) → sees (of_handle h) ≡ introspected (meant s names h)) →
      ((top : N) (answer : N → Name → Members → Reply N) (n : N) (f : Name) (args : Members) →
      map_reply sees (held_user_reply answer n f args) ≡ user_reply top s answer n f args)
      × ((h : Handle) (f : Name) (args : Members) → map_reply sees (held_reply h f args)
      ≡ answered (map_tree introspected (introspect s (meant s names h) f args)))

-- in a schema that can be executed, where each known name stands at its number
abbrev pub HeldNodesServe : Type 0 → Type 0 → Type 0
HeldNodesServe N R = (s : Schema) → IsTrue (is_executable s) → (names : List Name) (number : Name → ℕ) → AllAreNamed s names number →
    (of_user : N → R) (of_handle : Handle → R) → RepliesServe of_user of_handle s names number
