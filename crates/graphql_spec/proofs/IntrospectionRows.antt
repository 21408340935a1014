-- What a small schema answers about itself, worked out from the Specification (4.2) by hand.
use Rattle.std.specs.Prelude.{◌≡◌, true, false, codes, map, List, [], ◌∷◌, Option, Some, None}
use Rattle.std.proofs.Common.{refl}
use Rattle.std.specs.Fmt.{digits}
use Rattle.graphql_spec.specs.Shown.{Text, Shown, text, boolean}
use Rattle.graphql_spec.specs.Types.{TypeRef, list_of}
use Rattle.graphql_spec.specs.Constants as c
use Rattle.graphql_spec.specs.Constants.{Constant, Members, no_members, member, find}
use Rattle.graphql_spec.specs.Schema.{InputDeclaration, DirectiveDeclaration, Schema, plain_field, plain_input}
use Rattle.graphql_spec.specs.BuiltIns.{maybe, must as must_be, maybe_all, must_all, object_entry, value_named, enum_entry, field_without, include_deprecated}
use Rattle.graphql_spec.specs.BuiltIns.{old_flag, schema_type, type_type, field_type, input_value_type, enum_value_type, directive_type, type_kind_type}
use Rattle.graphql_spec.specs.BuiltIns.{location_type, introspection_types, condition_arguments, selection_places, directives}
use Rattle.graphql_spec.specs.Fields.{entry_in, shape_of, or_else, is_object, interfaces_of}
use Rattle.graphql_spec.specs.Executable.{is_reserved}
use Rattle.graphql_spec.specs.Display.{hex_digit, written_byte, quoted, shown_text_of, display}
use Rattle.graphql_spec.specs.Resolvers.{Tree, nothing, leaf, items, node, Trees, no_trees, tree}
use Rattle.graphql_spec.specs.TypeList.{put_in_order, in_order, type_list}
use Rattle.graphql_spec.specs.Introspected.{is_deprecated, reason_of, own_name, of_type, declaration_of, declared_as, declared_kind, kind_of, description_of}
use Rattle.graphql_spec.specs.Introspected.{url_of, lists_field, own_fields, listed_fields, listed_interfaces, is_implementer, implementers, possible_types}
use Rattle.graphql_spec.specs.Introspected.{lists_value, own_values, listed_values, listed_inputs}
use Rattle.graphql_spec.specs.Introspection.{Introspected, schema_node, type_node, field_node, input_node, value_node, directive_node, introspection_type, says}
use Rattle.graphql_spec.specs.Introspection.{tells, each, all_of, if_any, answer_at, a_type, type_called, an_input, is_yes, includes_deprecated, given_text}
use Rattle.graphql_spec.specs.Introspection.{schema_answers, type_answers, field_answers, input_answers, value_answers, stands_on, directive_answers}
use Rattle.graphql_spec.specs.Introspection.{answers_of, introspect, type_if_known, root_answers}
use Rattle.graphql_spec.proofs.IntrospectionDemo.{may, must, filter_fields, grid, old, green, entries, demo, changing}

-- ## Words for the rows

-- what is asked of a schema, and all that this unfolds
unfoldable pub ask_of : Schema → Introspected → Text → Members → Tree Introspected
unfolding introspect answers_of schema_answers type_answers field_answers input_answers value_answers directive_answers stands_on root_answers type_if_known
    given_text includes_deprecated is_yes an_input type_called a_type answer_at if_any all_of each tells says introspection_type is_deprecated reason_of
    own_name of_type declaration_of declared_as declared_kind kind_of description_of url_of lists_field own_fields listed_fields listed_interfaces
    is_implementer implementers possible_types lists_value own_values listed_values listed_inputs put_in_order in_order type_list hex_digit written_byte quoted
    shown_text_of display is_reserved entry_in shape_of or_else is_object interfaces_of maybe must_be maybe_all must_all object_entry value_named enum_entry
    field_without include_deprecated old_flag schema_type type_type field_type input_value_type enum_value_type directive_type type_kind_type location_type
    introspection_types condition_arguments selection_places directives plain_field plain_input filter_fields grid old green entries demo changing find digits
ask_of s x f args = introspect s x f args

abbrev ask : Introspected → Text → Tree Introspected
ask x f = ask_of demo x f no_members

-- what a type answers
abbrev of_type_called : Text → Text → Tree Introspected
of_type_called n f = ask (type_node (may n)) f

-- with `includeDeprecated`
abbrev including : Constant → Text → Text → Tree Introspected
including v n f = ask_of demo (type_node (may n)) f (member (codes "includeDeprecated") v no_members)

-- the name that a node answers, or a text
unfoldable name_in : Tree Introspected → Text
unfolding ask_of
name_in nothing = codes "null"
name_in (leaf (text t)) = t
name_in (leaf x) = codes "no text"
name_in (items ts) = codes "a list"
name_in (node x) = named_as (ask x (codes "name"))
  where
    named_as : Tree Introspected → Text
    named_as (leaf (text t)) = t
    named_as other = codes "null"

unfoldable names_in : Trees Introspected → List Text
names_in no_trees = []
names_in (tree a rest) = name_in a ∷ names_in rest

-- the names of what a list holds; null is none
unfoldable names : Tree Introspected → Option (List Text)
unfolding ask_of name_in names_in
names nothing = None
names (items ts) = Some (names_in ts)
names other = Some (codes "no list" ∷ [])

abbrev some : List Text → Option (List Text)
some ns = Some ns

abbrev text_is : Text → Tree Introspected
text_is t = leaf (text t)

abbrev Answers : Tree Introspected → Text → Type 0
Answers a t = a ≡ text_is t

abbrev Null : Tree Introspected → Type 0
Null a = a ≡ nothing

abbrev Tells : Tree Introspected → Shown → Type 0
Tells a x = a ≡ leaf x

-- ## `__Schema` (4.2.1)

-- no description; the types by the bytes of their names, without the two that stand for none
schema_says : Null (ask schema_node (codes "description"))
    × (names (ask schema_node (codes "types")) ≡ some (codes "Any" ∷ codes "Boolean" ∷ codes "Color" ∷ codes "Date" ∷ codes "Filter" ∷ codes "Int"
    ∷ codes "Item" ∷ codes "Named" ∷ codes "Node" ∷ codes "Query" ∷ codes "String" ∷ codes "Zebra"
    ∷ codes "__Directive" ∷ codes "__DirectiveLocation" ∷ codes "__EnumValue" ∷ codes "__Field" ∷ codes "__InputValue" ∷ codes "__Schema" ∷ codes "__Type"
    ∷ codes "__TypeKind" ∷ []))
    × Answers (text_is (name_in (ask schema_node (codes "queryType")))) (codes "Query")
    × Null (ask schema_node (codes "mutationType"))
    × Answers (text_is (name_in (ask_of changing schema_node (codes "mutationType") no_members))) (codes "Zebra")
    × Null (ask schema_node (codes "subscriptionType"))
    × (names (ask schema_node (codes "directives")) ≡ some (codes "deprecated" ∷ codes "include" ∷ codes "skip" ∷ codes "specifiedBy" ∷ []))
unfolding ask_of name_in names_in names
schema_says = (refl, refl, refl, refl, refl, refl, refl)

-- ## `__Type` (4.2.2)

abbrev of_ref : TypeRef → Text → Tree Introspected
of_ref t f = ask (type_node t) f

-- one kind for each sort of type; a non-null list is non-null first
kinds_are : Answers (of_type_called (codes "Date") (codes "kind")) (codes "SCALAR")
    × Answers (of_type_called (codes "Item") (codes "kind")) (codes "OBJECT")
    × Answers (of_type_called (codes "Named") (codes "kind")) (codes "INTERFACE")
    × Answers (of_type_called (codes "Any") (codes "kind")) (codes "UNION")
    × Answers (of_type_called (codes "Color") (codes "kind")) (codes "ENUM")
    × Answers (of_type_called (codes "Filter") (codes "kind")) (codes "INPUT_OBJECT")
    × Answers (of_type_called (codes "__Type") (codes "kind")) (codes "OBJECT")
    × Answers (of_type_called (codes "__TypeKind") (codes "kind")) (codes "ENUM")
    × Answers (of_ref (must (codes "Int")) (codes "kind")) (codes "NON_NULL")
    × Answers (of_ref (list_of false None (must (codes "Int"))) (codes "kind")) (codes "LIST")
    × Answers (of_ref (list_of true None (must (codes "Int"))) (codes "kind")) (codes "NON_NULL")
unfolding ask_of
kinds_are = (refl, refl, refl, refl, refl, refl, refl, refl, refl, refl, refl)

-- lists and non-null types have no name and no description
names_are : Answers (of_type_called (codes "Date") (codes "name")) (codes "Date")
    × Null (of_ref (must (codes "Date")) (codes "name"))
    × Null (of_ref (list_of false None (may (codes "Date"))) (codes "name"))
    × Answers (of_type_called (codes "Date") (codes "description")) (codes "A day")
    × Null (of_ref (must (codes "Date")) (codes "description"))
    × Null (of_ref (list_of false None (may (codes "Date"))) (codes "description"))
    × Null (of_type_called (codes "Item") (codes "description"))
unfolding ask_of
names_are = (refl, refl, refl, refl, refl, refl, refl)

-- of scalars that were given one, under both names
urls_are : Answers (of_type_called (codes "Date") (codes "specifiedByURL")) (codes "https://date.org")
    × Answers (of_type_called (codes "Date") (codes "specifiedByUrl")) (codes "https://date.org")
    × Null (of_type_called (codes "Int") (codes "specifiedByURL"))
    × Null (of_type_called (codes "Item") (codes "specifiedByURL"))
    × Null (of_ref (must (codes "Date")) (codes "specifiedByURL"))
unfolding ask_of
urls_are = (refl, refl, refl, refl, refl)

-- of objects and interfaces, in declared order, without `__typename`; deprecated ones where `includeDeprecated` is true
fields_are : (names (of_type_called (codes "Item") (codes "fields")) ≡ some (codes "id" ∷ codes "name" ∷ codes "grid" ∷ []))
    × (names (including (c.scalar (boolean true)) (codes "Item") (codes "fields")) ≡ some (codes "id" ∷ codes "name" ∷ codes "old" ∷ codes "grid" ∷ []))
    × (names (including (c.scalar (boolean false)) (codes "Item") (codes "fields")) ≡ some (codes "id" ∷ codes "name" ∷ codes "grid" ∷ []))
    × (names (including c.null (codes "Item") (codes "fields")) ≡ some (codes "id" ∷ codes "name" ∷ codes "grid" ∷ []))
    × (names (of_type_called (codes "Named") (codes "fields")) ≡ some (codes "id" ∷ codes "name" ∷ []))
    × (names (of_type_called (codes "_EmptyMutation") (codes "fields")) ≡ some [])
    × (names (of_type_called (codes "Any") (codes "fields")) ≡ None)
    × (names (of_type_called (codes "Color") (codes "fields")) ≡ None)
    × (names (of_type_called (codes "Date") (codes "fields")) ≡ None)
    × (names (of_type_called (codes "Filter") (codes "fields")) ≡ None)
    × (names (of_ref (must (codes "Item")) (codes "fields")) ≡ None)
    × (names (of_ref (list_of false None (may (codes "Item"))) (codes "fields")) ≡ None)
unfolding ask_of name_in names_in names
fields_are = (refl, refl, refl, refl, refl, refl, refl, refl, refl, refl, refl, refl)

-- the introspection types show their fields too: the older flags are deprecated
own_types_list : (names (of_type_called (codes "__Directive") (codes "fields"))
    ≡ some (codes "name" ∷ codes "description" ∷ codes "locations" ∷ codes "args" ∷ codes "isRepeatable" ∷ []))
    × (names (including (c.scalar (boolean true)) (codes "__Directive") (codes "fields"))
    ≡ some (codes "name" ∷ codes "description" ∷ codes "locations" ∷ codes "args" ∷ codes "isRepeatable" ∷ codes "onOperation" ∷ codes "onFragment"
    ∷ codes "onField" ∷ []))
    × (names (of_type_called (codes "__Type") (codes "fields")) ≡ some
    (codes "kind" ∷ codes "name" ∷ codes "description" ∷ codes "specifiedByURL" ∷ codes "specifiedByUrl" ∷ codes "fields" ∷ codes "interfaces"
    ∷ codes "possibleTypes" ∷ codes "enumValues" ∷ codes "inputFields" ∷ codes "ofType" ∷ []))
unfolding ask_of name_in names_in names
own_types_list = (refl, refl, refl)

-- of objects and interfaces, in declared order; empty where there are none
interfaces_are : (names (of_type_called (codes "Item") (codes "interfaces")) ≡ some (codes "Node" ∷ codes "Named" ∷ []))
    × (names (of_type_called (codes "Named") (codes "interfaces")) ≡ some (codes "Node" ∷ []))
    × (names (of_type_called (codes "Node") (codes "interfaces")) ≡ some [])
    × (names (of_type_called (codes "Query") (codes "interfaces")) ≡ some [])
    × (names (of_type_called (codes "Any") (codes "interfaces")) ≡ None)
    × (names (of_type_called (codes "Filter") (codes "interfaces")) ≡ None)
    × (names (of_ref (must (codes "Item")) (codes "interfaces")) ≡ None)
unfolding ask_of name_in names_in names
interfaces_are = (refl, refl, refl, refl, refl, refl, refl)

-- of an interface the objects by name, which is not the order of entries, and no interface; of a union its members in order
possible_are : (names (of_type_called (codes "Node") (codes "possibleTypes")) ≡ some (codes "Item" ∷ codes "Zebra" ∷ []))
    × (names (of_type_called (codes "Named") (codes "possibleTypes")) ≡ some (codes "Item" ∷ []))
    × (names (of_type_called (codes "Any") (codes "possibleTypes")) ≡ some (codes "Zebra" ∷ codes "Item" ∷ []))
    × (names (of_type_called (codes "Item") (codes "possibleTypes")) ≡ None)
    × (names (of_type_called (codes "Color") (codes "possibleTypes")) ≡ None)
    × (names (of_ref (must (codes "Node")) (codes "possibleTypes")) ≡ None)
unfolding ask_of name_in names_in names
possible_are = (refl, refl, refl, refl, refl, refl)

-- of enums, in declared order; deprecated ones where `includeDeprecated` is true
values_are : (names (of_type_called (codes "Color") (codes "enumValues")) ≡ some (codes "RED" ∷ codes "BLUE" ∷ []))
    × (names (including (c.scalar (boolean true)) (codes "Color") (codes "enumValues")) ≡ some (codes "RED" ∷ codes "GREEN" ∷ codes "BLUE" ∷ []))
    × (names (including c.null (codes "Color") (codes "enumValues")) ≡ some (codes "RED" ∷ codes "BLUE" ∷ []))
    × (names (of_type_called (codes "__TypeKind") (codes "enumValues"))
    ≡ some (codes "SCALAR" ∷ codes "OBJECT" ∷ codes "INTERFACE" ∷ codes "UNION" ∷ codes "ENUM" ∷ codes "INPUT_OBJECT" ∷ codes "LIST" ∷ codes "NON_NULL"
    ∷ []))
    × (names (of_type_called (codes "Item") (codes "enumValues")) ≡ None)
    × (names (of_ref (must (codes "Color")) (codes "enumValues")) ≡ None)
unfolding ask_of name_in names_in names
values_are = (refl, refl, refl, refl, refl, refl)

-- of input objects, in declared order
inputs_are : (names (of_type_called (codes "Filter") (codes "inputFields"))
    ≡ some (codes "text" ∷ codes "number" ∷ codes "flag" ∷ codes "color" ∷ codes "none" ∷ codes "many" ∷ codes "inner" ∷ codes "plain" ∷ []))
    × (names (of_type_called (codes "Item") (codes "inputFields")) ≡ None)
    × (names (of_ref (must (codes "Filter")) (codes "inputFields")) ≡ None)
unfolding ask_of name_in names_in names
inputs_are = (refl, refl, refl)

-- of `[[Int!]!]!` inwards, whatever the expected size
insides_are : (of_ref (list_of true (Some 3) (list_of true None (must (codes "Int")))) (codes "ofType")
    ≡ node (type_node (list_of false (Some 3) (list_of true None (must (codes "Int"))))))
    × (of_ref (list_of false (Some 3) (list_of true None (must (codes "Int")))) (codes "ofType") ≡ node (type_node (list_of true None (must (codes "Int")))))
    × (of_ref (list_of true None (must (codes "Int"))) (codes "ofType") ≡ node (type_node (list_of false None (must (codes "Int")))))
    × (of_ref (list_of false None (must (codes "Int"))) (codes "ofType") ≡ node (type_node (must (codes "Int"))))
    × (of_ref (must (codes "Int")) (codes "ofType") ≡ node (type_node (may (codes "Int"))))
    × Null (of_ref (may (codes "Int")) (codes "ofType"))
unfolding ask_of
insides_are = (refl, refl, refl, refl, refl, refl)

-- ## `__Field` (4.2.3)

field_says : Answers (ask (field_node grid) (codes "name")) (codes "grid")
    × Answers (ask (field_node grid) (codes "description")) (codes "Rows of cells")
    × Null (ask (field_node old) (codes "description"))
    × (names (ask (field_node grid) (codes "args")) ≡ some (codes "filter" ∷ codes "most" ∷ []))
    × (names (ask (field_node old) (codes "args")) ≡ some [])
    × (ask (field_node grid) (codes "type") ≡ node (type_node (list_of true None (list_of true None (must (codes "Int"))))))
    × Tells (ask (field_node grid) (codes "isDeprecated")) (boolean false)
    × Tells (ask (field_node old) (codes "isDeprecated")) (boolean true)
    × Null (ask (field_node grid) (codes "deprecationReason"))
    × Answers (ask (field_node old) (codes "deprecationReason")) (codes "Use name")
unfolding ask_of name_in names_in names
field_says = (refl, refl, refl, refl, refl, refl, refl, refl, refl, refl)

-- ## `__InputValue` (4.2.4)

-- the printed defaults, in declared order
unfoldable defaults : List InputDeclaration → List (Tree Introspected)
unfolding ask_of
defaults [] = []
defaults (d ∷ ds) = ask (input_node d) (codes "defaultValue") ∷ defaults ds

input_says : (defaults filter_fields ≡ text_is (codes "\"a\\\"b\"") ∷ text_is (codes "-5") ∷ text_is (codes "true") ∷ text_is (codes "RED")
    ∷ text_is (codes "null") ∷ text_is (codes "[1, 2]") ∷ text_is (codes "{plain: 3}") ∷ nothing ∷ [])
    × Answers (ask (input_node (plain_input (codes "at") (must (codes "Int")))) (codes "name")) (codes "at")
    × Null (ask (input_node (plain_input (codes "at") (must (codes "Int")))) (codes "description"))
    × (ask (input_node (plain_input (codes "at") (must (codes "Int")))) (codes "type") ≡ node (type_node (must (codes "Int"))))
unfolding ask_of defaults
input_says = (refl, refl, refl, refl)

-- ## `__EnumValue` (4.2.5)

value_says : Answers (ask (value_node green) (codes "name")) (codes "GREEN")
    × Answers (ask (value_node green) (codes "description")) (codes "As grass")
    × Tells (ask (value_node green) (codes "isDeprecated")) (boolean true)
    × Null (ask (value_node green) (codes "deprecationReason"))
    × Null (ask (value_node (value_named (codes "RED"))) (codes "description"))
    × Tells (ask (value_node (value_named (codes "RED"))) (codes "isDeprecated")) (boolean false)
    × Null (ask (value_node (value_named (codes "RED"))) (codes "deprecationReason"))
unfolding ask_of
value_says = (refl, refl, refl, refl, refl, refl, refl)

-- ## `__Directive` (4.2.6)

-- what all directives answer to a field
unfoldable all_directives : Text → List DirectiveDeclaration → List (Tree Introspected)
unfolding ask_of
all_directives f [] = []
all_directives f (d ∷ ds) = ask (directive_node d) f ∷ all_directives f ds

abbrev of_directives : Text → List (Tree Introspected)
of_directives f = all_directives f directives

abbrev yes_or_no : Tree Introspected → Tree Introspected → Tree Introspected → Tree Introspected → List (Tree Introspected)
yes_or_no a b c d = a ∷ b ∷ c ∷ d ∷ []

abbrev no_tree : Tree Introspected
no_tree = leaf (boolean false)

abbrev yes_tree : Tree Introspected
yes_tree = leaf (boolean true)

-- `deprecated`, `include`, `skip`, `specifiedBy`: none is repeatable; two stand on fields and fragments
directives_say : (of_directives (codes "name") ≡ text_is (codes "deprecated") ∷ text_is (codes "include") ∷ text_is (codes "skip")
    ∷ text_is (codes "specifiedBy") ∷ [])
    × (of_directives (codes "description") ≡ nothing ∷ nothing ∷ nothing ∷ nothing ∷ [])
    × (map names (of_directives (codes "locations")) ≡ some (codes "FIELD_DEFINITION" ∷ codes "ENUM_VALUE" ∷ [])
    ∷ some (codes "FIELD" ∷ codes "FRAGMENT_SPREAD" ∷ codes "INLINE_FRAGMENT" ∷ [])
    ∷ some (codes "FIELD" ∷ codes "FRAGMENT_SPREAD" ∷ codes "INLINE_FRAGMENT" ∷ []) ∷ some (codes "SCALAR" ∷ []) ∷ [])
    × (map names (of_directives (codes "args")) ≡ some (codes "reason" ∷ []) ∷ some (codes "if" ∷ []) ∷ some (codes "if" ∷ []) ∷ some (codes "url" ∷ []) ∷ [])
    × (of_directives (codes "isRepeatable") ≡ yes_or_no no_tree no_tree no_tree no_tree)
    × (of_directives (codes "onOperation") ≡ yes_or_no no_tree no_tree no_tree no_tree)
    × (of_directives (codes "onFragment") ≡ yes_or_no no_tree yes_tree yes_tree no_tree)
    × (of_directives (codes "onField") ≡ yes_or_no no_tree yes_tree yes_tree no_tree)
unfolding ask_of name_in names_in names all_directives
directives_say = (refl, refl, refl, refl, refl, refl, refl, refl)

-- a directive on queries and on the definitions of fragments
on_queries : DirectiveDeclaration
on_queries = record { name = codes "cached"; locations = codes "QUERY" ∷ codes "FRAGMENT_DEFINITION" ∷ []; arguments = [] }

older_flags : Tells (ask (directive_node on_queries) (codes "onOperation")) (boolean true)
    × Tells (ask (directive_node on_queries) (codes "onFragment")) (boolean true)
    × Tells (ask (directive_node on_queries) (codes "onField")) (boolean false)
unfolding ask_of on_queries
older_flags = (refl, refl, refl)

-- ## The root (4.2)

-- `__schema`, and `__type` of a known name, of an unknown one, and of one that is not listed
abbrev at_root : Text → Members → Tree Introspected
at_root f args = answer_at f (root_answers demo args)

abbrev naming : Text → Members
naming n = member (codes "name") (c.scalar (text n)) no_members

unfoldable root_tree : Text → Members → Tree Introspected
unfolding ask_of
root_tree f args = at_root f args

root_says : (root_tree (codes "__schema") no_members ≡ node schema_node)
    × (root_tree (codes "__type") (naming (codes "Item")) ≡ node (type_node (may (codes "Item"))))
    × (root_tree (codes "__type") (naming (codes "__Field")) ≡ node (type_node (may (codes "__Field"))))
    × Null (root_tree (codes "__type") (naming (codes "Nope")))
    × (root_tree (codes "__type") (naming (codes "_EmptyMutation")) ≡ node (type_node (may (codes "_EmptyMutation"))))
unfolding ask_of root_tree
root_says = (refl, refl, refl, refl, refl)
