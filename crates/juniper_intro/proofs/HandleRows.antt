-- Nodes that are held by numbers, over the small schema.
use Rattle.std.specs.Prelude.{◌≡◌, ℕ, suc, cond, true, codes, map, List, [], ◌∷◌, ◌++◌, None}
use Rattle.std.proofs.Common.{refl}
use Rattle.std.specs.Str.{bytes_eq}
use Rattle.graphql_spec.specs.Shown.{Text, Name, boolean}
use Rattle.graphql_spec.specs.Types.{list_of}
use Rattle.graphql_spec.specs.Constants as c
use Rattle.graphql_spec.specs.Constants.{Members, no_members, member}
use Rattle.graphql_spec.specs.Resolvers.{Tree, nothing, items, node, no_trees, tree}
use Rattle.graphql_spec.specs.TypeList.{type_list}
use Rattle.graphql_spec.specs.Introspection.{Introspected, type_node}
use Rattle.juniper_intro.specs.Handles.{of_field, of_directive, by_name, at_field, at_input, Handle, schema_handle, type_handle, field_handle, input_handle}
use Rattle.juniper_intro.specs.Handles.{value_handle, directive_handle, numbered, taken_off, called, inputs_at, field_held, input_held, value_held}
use Rattle.juniper_intro.specs.Handles.{directive_held, directive_at, shape_at, field_at, value_at, input_at, reference_at, meant, schema_held, type_held}
use Rattle.juniper_intro.specs.Handles.{held_answers, held_answer}
use Rattle.graphql_spec.proofs.IntrospectionDemo.{must, grid, demo}
use Rattle.graphql_spec.proofs.IntrospectionRows.{ask_of}

-- the listed names, and then the hidden ones
unfoldable names : List Name
unfolding ask_of
names = map (λ e. e.key) (type_list demo) ++ codes "_EmptyMutation" ∷ codes "_EmptySubscription" ∷ []

-- the number of a name, the first one
unfoldable number_of : List Name → Name → ℕ
number_of [] n = 0
number_of (m ∷ ns) n = cond (bytes_eq n m) 0 (suc (number_of ns n))

unfoldable held_of : Handle → Text → Members → Tree Handle
unfolding ask_of names number_of numbered taken_off called inputs_at field_held input_held value_held directive_held directive_at shape_at field_at value_at
    input_at reference_at schema_held type_held held_answers held_answer
held_of h f args = held_answer demo names (number_of names) h f args

unfoldable meaning : Handle → Introspected
unfolding held_of meant
meaning h = meant demo names h

-- the handles of a list
abbrev three : Handle → Handle → Handle → Tree Handle
three a b d = items (tree (node a) (tree (node b) (tree (node d) no_trees)))

abbrev two : Handle → Handle → Tree Handle
two a b = items (tree (node a) (tree (node b) no_trees))

-- `Item` is the seventh of the listed names; its third field is deprecated and its last one is `__typename`
fields_held : (held_of (type_handle (by_name 6) 0) (codes "fields") no_members ≡ three (field_handle 6 0) (field_handle 6 1) (field_handle 6 3))
    × (held_of (type_handle (by_name 6) 0) (codes "fields") (member (codes "includeDeprecated") (c.scalar (boolean true)) no_members)
    ≡ items (tree (node (field_handle 6 0)) (tree (node (field_handle 6 1)) (tree (node (field_handle 6 2)) (tree (node (field_handle 6 3)) no_trees)))))
    × (held_of (type_handle (by_name 6) 0) (codes "interfaces") no_members ≡ two (type_handle (by_name 8) 0) (type_handle (by_name 7) 0))
    × (held_of (type_handle (by_name 2) 0) (codes "enumValues") no_members ≡ two (value_handle 2 0) (value_handle 2 2))
    × (held_of schema_handle (codes "queryType") no_members ≡ node (type_handle (by_name 9) 0))
unfolding held_of
fields_held = (refl, refl, refl, refl, refl)

-- the type of `grid`, `[[Int!]!]!`, and two wrappers inside it
types_held : (held_of (field_handle 6 3) (codes "type") no_members ≡ node (type_handle (at_field 6 3) 0))
    × (held_of (type_handle (at_field 6 3) 0) (codes "ofType") no_members ≡ node (type_handle (at_field 6 3) 1))
    × (meaning (type_handle (at_field 6 3) 0) ≡ type_node (list_of true None (list_of true None (must (codes "Int")))))
    × (meaning (type_handle (at_field 6 3) 2) ≡ type_node (list_of true None (must (codes "Int"))))
    × (meaning (type_handle (by_name 5) 0) ≡ meaning (type_handle (at_field 6 3) 5))
unfolding meaning grid
types_held = (refl, refl, refl, refl, refl)

-- arguments of fields and of directives
arguments_held : (held_of (field_handle 6 3) (codes "args") no_members ≡ two (input_handle (of_field 6 3 0)) (input_handle (of_field 6 3 1)))
    × (held_of (directive_handle 1) (codes "args") no_members ≡ items (tree (node (input_handle (of_directive 1 0))) no_trees))
    × (held_of (input_handle (of_field 6 3 0)) (codes "type") no_members ≡ node (type_handle (at_input (of_field 6 3 0)) 0))
    × (held_of (input_handle (of_field 6 3 0)) (codes "defaultValue") no_members ≡ nothing)
unfolding held_of
arguments_held = (refl, refl, refl, refl)
