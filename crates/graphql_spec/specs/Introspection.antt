-- Asking a schema about itself (4): the nodes of introspection, and what each answers.
use Rattle.std.specs.Prelude.{Bool, false, ◌||◌, codes, cond, List, [], ◌∷◌, Option, Some, None, option_map}
use Rattle.std.specs.List.{list_any}
use Rattle.std.specs.Option.{is_some, option_and_then}
use Rattle.std.specs.Str.{bytes_eq}
use Rattle.graphql_spec.specs.Shown.{Text, Name, text, boolean}
use Rattle.graphql_spec.specs.Types.{TypeRef, named}
use Rattle.graphql_spec.specs.Inputs.{Variables}
use Rattle.graphql_spec.specs.Constants as c
use Rattle.graphql_spec.specs.Constants.{Constant, Members, find}
use Rattle.graphql_spec.specs.Display.{display}
use Rattle.graphql_spec.specs.Schema.{InputDeclaration, FieldDeclaration, EnumValue, DirectiveDeclaration, Entry, Schema}
use Rattle.graphql_spec.specs.BuiltIns.{directives}
use Rattle.graphql_spec.specs.Fields.{shape_of}
use Rattle.graphql_spec.specs.Resolvers.{Tree, nothing, leaf, items, node, Trees, no_trees, tree, Reply, answered, World, world_of}
use Rattle.graphql_spec.specs.Outcomes.{Service}
use Rattle.graphql_spec.specs.Rules.{is_introspection}
use Rattle.graphql_spec.specs.SeenNodes.{map_tree, map_reply}
use Rattle.graphql_spec.specs.SeenServices.{seen_steps}
use Rattle.graphql_spec.specs.TypeList.{type_list}
use Rattle.graphql_spec.specs.Introspected.{is_deprecated, reason_of, own_name, of_type, declaration_of, declared_as, kind_of, description_of, url_of}
use Rattle.graphql_spec.specs.Introspected.{listed_fields, listed_interfaces, possible_types, listed_values, listed_inputs}

-- what stands for an object of introspection (4.2)
pub data Introspected : Type 0 where
  schema_node : Introspected
  type_node : TypeRef → Introspected
  field_node : FieldDeclaration → Introspected
  input_node : InputDeclaration → Introspected
  value_node : EnumValue → Introspected
  directive_node : DirectiveDeclaration → Introspected

-- its object type
unfoldable pub introspection_type : Introspected → Name
introspection_type schema_node = codes "__Schema"
introspection_type (type_node t) = codes "__Type"
introspection_type (field_node f) = codes "__Field"
introspection_type (input_node d) = codes "__InputValue"
introspection_type (value_node v) = codes "__EnumValue"
introspection_type (directive_node d) = codes "__Directive"

-- ## Words for answers

module _ {N : Type 0} where
  -- a text
  unfoldable pub says : Text → Tree N
  says t = leaf (text t)

  -- yes or no
  unfoldable pub tells : Bool → Tree N
  tells b = leaf (boolean b)

  -- a tree for each
  unfoldable pub each : {A : Type 0} → (A → Tree N) → List A → Trees N
  each f [] = no_trees
  each f (x ∷ xs) = tree (f x) (each f xs)

  -- the list of a tree for each
  unfoldable pub all_of : {A : Type 0} → (A → Tree N) → List A → Tree N
  all_of f xs = items (each f xs)

  -- a tree, or null where there is nothing
  unfoldable pub if_any : {A : Type 0} → (A → Tree N) → Option A → Tree N
  if_any f None = nothing
  if_any f (Some x) = f x

  -- the answer that stands at a field
  unfoldable pub answer_at : Name → List (Name × Tree N) → Tree N
  answer_at f [] = nothing
  answer_at f (a ∷ rest) = cond (bytes_eq f a.0) a.1 (answer_at f rest)

-- the type of a reference
unfoldable pub a_type : TypeRef → Tree Introspected
a_type t = node (type_node t)

-- the type of a name
unfoldable pub type_called : Name → Tree Introspected
type_called n = a_type (named false n)

-- an argument, or a field of an input object
unfoldable pub an_input : InputDeclaration → Tree Introspected
an_input d = node (input_node d)

-- ## Arguments

-- the boolean true
unfoldable pub is_yes : Option Constant → Bool
is_yes (Some (c.scalar (boolean b))) = b
is_yes _ = false

-- deprecated ones are asked for too; null counts as no
unfoldable pub includes_deprecated : Members → Bool
includes_deprecated args = is_yes (find (codes "includeDeprecated") args)

-- a text that is given
unfoldable pub given_text : Option Constant → Option Text
given_text (Some (c.scalar (text t))) = Some t
given_text _ = None

-- ## The answers of each type, field by field, in declared order

-- `__Schema` (4.2.1)
unfoldable pub schema_answers : Schema → List (Name × Tree Introspected)
schema_answers s = (codes "description", nothing)
    ∷ (codes "types", all_of (λ e. type_called e.key) (type_list s))
    ∷ (codes "queryType", type_called s.query)
    ∷ (codes "mutationType", if_any type_called s.mutation)
    ∷ (codes "subscriptionType", nothing)
    ∷ (codes "directives", all_of (λ d. node (directive_node d)) directives) ∷ []

-- `__Type` (4.2.2)
unfoldable pub type_answers : Schema → TypeRef → Members → List (Name × Tree Introspected)
type_answers s t args =
    let declared : Option Entry = declared_as s t in
    (codes "kind", if_any says (kind_of s t))
    ∷ (codes "name", if_any says (own_name t))
    ∷ (codes "description", if_any says (description_of declared))
    ∷ (codes "specifiedByURL", if_any says (url_of (shape_of declared)))
    ∷ (codes "specifiedByUrl", if_any says (url_of (shape_of declared)))
    ∷ (codes "fields", if_any (all_of (λ f. node (field_node f))) (listed_fields (includes_deprecated args) (shape_of declared)))
    ∷ (codes "interfaces", if_any (all_of type_called) (listed_interfaces (shape_of declared)))
    ∷ (codes "possibleTypes", if_any (all_of type_called) (option_and_then (λ n. possible_types s n (shape_of declared)) (own_name t)))
    ∷ (codes "enumValues", if_any (all_of (λ v. node (value_node v))) (listed_values (includes_deprecated args) (shape_of declared)))
    ∷ (codes "inputFields", if_any (all_of an_input) (listed_inputs (shape_of declared)))
    ∷ (codes "ofType", if_any a_type (of_type t)) ∷ []

-- `__Field` (4.2.3)
unfoldable pub field_answers : FieldDeclaration → List (Name × Tree Introspected)
field_answers f = (codes "name", says f.name)
    ∷ (codes "description", if_any says f.description)
    ∷ (codes "args", all_of an_input f.arguments)
    ∷ (codes "type", a_type f.of_type)
    ∷ (codes "isDeprecated", tells (is_deprecated f.deprecation))
    ∷ (codes "deprecationReason", if_any says (reason_of f.deprecation)) ∷ []

-- `__InputValue` (4.2.4)
unfoldable pub input_answers : InputDeclaration → List (Name × Tree Introspected)
input_answers d = (codes "name", says d.name)
    ∷ (codes "description", if_any says d.description)
    ∷ (codes "type", a_type d.of_type)
    ∷ (codes "defaultValue", if_any (λ v. says (display v)) d.default) ∷ []

-- `__EnumValue` (4.2.5)
unfoldable pub value_answers : EnumValue → List (Name × Tree Introspected)
value_answers v = (codes "name", says v.name)
    ∷ (codes "description", if_any says v.description)
    ∷ (codes "isDeprecated", tells (is_deprecated v.deprecation))
    ∷ (codes "deprecationReason", if_any says (reason_of v.deprecation)) ∷ []

-- a directive may stand there
unfoldable pub stands_on : DirectiveDeclaration → Name → Bool
stands_on d place = list_any (bytes_eq place) d.locations

-- `__Directive` (4.2.6), with the older flags
unfoldable pub directive_answers : DirectiveDeclaration → List (Name × Tree Introspected)
directive_answers d = (codes "name", says d.name)
    ∷ (codes "description", nothing)
    ∷ (codes "locations", all_of says d.locations)
    ∷ (codes "args", all_of an_input d.arguments)
    ∷ (codes "isRepeatable", tells false)
    ∷ (codes "onOperation", tells (stands_on d (codes "QUERY")))
    ∷ (
      codes "onFragment",
      tells (stands_on d (codes "FRAGMENT_DEFINITION")
          || (stands_on d (codes "INLINE_FRAGMENT") || stands_on d (codes "FRAGMENT_SPREAD"))),
    )
    ∷ (codes "onField", tells (stands_on d (codes "FIELD"))) ∷ []

-- what a node answers to its fields (4.2)
unfoldable pub answers_of : Schema → Introspected → Members → List (Name × Tree Introspected)
answers_of s schema_node args = schema_answers s
answers_of s (type_node t) args = type_answers s t args
answers_of s (field_node f) args = field_answers f
answers_of s (input_node d) args = input_answers d
answers_of s (value_node v) args = value_answers v
answers_of s (directive_node d) args = directive_answers d

-- the answer of a node to a field
unfoldable pub introspect : Schema → Introspected → Name → Members → Tree Introspected
introspect s x f args = answer_at f (answers_of s x args)

-- ## The root (4.1, 4.2)

-- the type of a name that is known
unfoldable pub type_if_known : Schema → Name → Tree Introspected
type_if_known s n = cond (is_some (declaration_of s n)) (type_called n) nothing

-- `__schema` and `__type(name:)`
unfoldable pub root_answers : Schema → Members → List (Name × Tree Introspected)
root_answers s args = (codes "__schema", node schema_node) ∷ (codes "__type", if_any (type_if_known s) (given_text (find (codes "name") args))) ∷ []

-- ## The whole

-- what stands for an object of an execution: the root (which stands for the query's own), a user's node, or one of introspection
pub data RootedNode (N : Type 0) : Type 0 where
  root : RootedNode N
  user : N → RootedNode N
  introspected : Introspected → RootedNode N

-- a resolver by its meaning: its root, the object types of its nodes, and its replies
module _ {N : Type 0} (top : N) where
  -- the object type of a node
  unfoldable pub rooted_concrete : (N → Name) → RootedNode N → Name
  rooted_concrete concrete root = concrete top
  rooted_concrete concrete (user n) = concrete n
  rooted_concrete concrete (introspected x) = introspection_type x

  -- the reply of a user's node: the schema answers `__schema` and `__type`, which the query type alone has, and the resolver all else
  unfoldable pub user_reply : Schema → (N → Name → Members → Reply N) → N → Name → Members → Reply (RootedNode N)
  user_reply s answer n f args =
      cond (is_introspection f) (answered (map_tree introspected (answer_at f (root_answers s args)))) (map_reply user (answer n f args))

  -- the reply of a node to a field
  unfoldable pub rooted_answer : Schema → (N → Name → Members → Reply N) → RootedNode N → Name → Members → Reply (RootedNode N)
  rooted_answer s answer root f args = user_reply s answer top f args
  rooted_answer s answer (user n) f args = user_reply s answer n f args
  rooted_answer s answer (introspected x) f args = answered (map_tree introspected (introspect s x f args))

  -- the world of a schema, variables and such a resolver
  unfoldable pub rooted_world : Schema → Variables → (N → Name) → (N → Name → Members → Reply N) → World (RootedNode N)
  rooted_world s vars concrete answer = world_of s vars (rooted_concrete concrete) (rooted_answer s answer)

-- a service with introspection: its nodes are the root's, the root stands for the service's own, and what the steps of a mutation reply
-- are users' nodes (6.1)
unfoldable pub rooted_service : {C N : Type 0} → Service C N → Service C (RootedNode N)
rooted_service S = record {
  schema = S.schema;
  introspection_disabled = S.introspection_disabled;
  concrete = λ c. rooted_concrete S.root (S.concrete c);
  answer = λ c. rooted_answer S.root S.schema (S.answer c);
  root = root;
  mutation = option_map (seen_steps user) S.mutation;
}
