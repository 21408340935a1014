-- Requests that ask a small schema about itself, worked out by hand: their data, and that nothing fails.
use Rattle.std.specs.Prelude.{◌≡◌, Bool, true, false, codes, List, [], ◌∷◌, Some, None}
use Rattle.std.proofs.Common.{refl}
use Rattle.graphql_spec.specs.Shown.{Text, Name, text, boolean}
use Rattle.graphql_spec.specs.Inputs as i
use Rattle.graphql_spec.specs.Inputs.{Variables}
use Rattle.graphql_spec.specs.Constants.{Members}
use Rattle.graphql_spec.specs.Documents.{end, Definition, operation, query, Document}
use Rattle.graphql_spec.specs.Executable.{is_executable}
use Rattle.graphql_spec.specs.Tokens.{is_name, starts_name, continues_name}
use Rattle.graphql_spec.specs.Values.{Value, null, scalar, list, object, no_items, item, no_entries, entry}
use Rattle.graphql_spec.specs.Resolvers.{nothing, Reply, answered, World}
use Rattle.graphql_spec.specs.Execution.{data_of}
use Rattle.graphql_spec.specs.Failures.{Failure, failures_of}
use Rattle.graphql_spec.specs.Requests.{Outcome, runs, refused, of_document, selected}
use Rattle.graphql_spec.proofs.Demo.{span, word, leaf_field, set_field, given_field, spread_of, fragment_on, asking}
use Rattle.graphql_spec.proofs.Rows.{answer}
use Rattle.graphql_spec.specs.SeenNodes.{map_tree, map_reply}
use Rattle.graphql_spec.specs.Introspection.{RootedNode, root, rooted_concrete, user_reply, rooted_answer, rooted_world}
use Rattle.graphql_spec.proofs.IntrospectionDemo.{demo}
use Rattle.graphql_spec.proofs.IntrospectionRows.{ask_of}

-- a resolver with one node, which answers null
abbrev one_answer : Name → Name → Members → Reply Name
one_answer n f args = answered nothing

abbrev no_variables : Variables
no_variables n = None

unfoldable world : World (RootedNode Name)
unfolding answer ask_of rooted_world
world = rooted_world (codes "Query") demo no_variables (λ n. n) one_answer

unfoldable outcome : Bool → Document → Outcome
unfolding answer ask_of
outcome disabled d = of_document demo disabled None no_variables (Some d)

unfoldable data_for : Outcome → Value
unfolding world rooted_concrete rooted_answer user_reply map_tree map_reply
data_for (runs d o vars) = data_of world (codes "Query") root (selected d o vars)
data_for (refused r) = scalar (text (codes "refused"))

unfoldable gives : Document → Value
unfolding data_for outcome
gives d = data_for (outcome false d)

unfoldable failing : Outcome → List Failure
unfolding world rooted_concrete rooted_answer user_reply map_tree map_reply
failing (runs d o vars) = failures_of world [] [] (codes "Query") root (selected d o vars)
failing (refused r) = []

unfoldable is_run : Outcome → Bool
is_run (runs d o vars) = true
is_run (refused r) = false

-- the schema can be executed
can_run : is_executable demo ≡ true
unfolding gives outcome is_name starts_name continues_name
can_run = refl

abbrev str : Text → Value
str s = scalar (text s)

abbrev named_object : Text → Value
named_object n = object (entry (codes "name") (str n) no_entries)

-- { __type(name: "Nope") { name } __typename }
unknown_type : gives (asking (given_field None (codes "__type") (codes "name") (i.scalar (text (codes "Nope"))) 2 true (leaf_field (codes "name") 3 end)
    (leaf_field (codes "__typename") 4 end)))
    ≡ object (entry (codes "__type") null (entry (codes "__typename") (str (codes "Query")) no_entries))
unfolding gives
unknown_type = refl

-- { __type(name: "Item") { fields { name } } __schema { mutationType { name } queryType { name __typename } } }
mixed : gives (asking (given_field None (codes "__type") (codes "name") (i.scalar (text (codes "Item"))) 2 true
    (set_field (codes "fields") 3 (leaf_field (codes "name") 4 end) end)
    (set_field (codes "__schema") 5 (set_field (codes "mutationType") 6 (leaf_field (codes "name") 7 end)
    (set_field (codes "queryType") 8 (leaf_field (codes "name") 9 (leaf_field (codes "__typename") 10 end)) end)) end)))
    ≡ object (entry (codes "__type") (object (entry (codes "fields")
    (list (item (named_object (codes "id")) (item (named_object (codes "name")) (item (named_object (codes "grid")) no_items)))) no_entries))
    (entry (codes "__schema") (object (entry (codes "mutationType") null
    (entry (codes "queryType") (object (entry (codes "name") (str (codes "Query")) (entry (codes "__typename") (str (codes "__Type")) no_entries)))
    no_entries))) no_entries))
unfolding gives
mixed = refl

-- { item { id } __schema { __typename } }: the user's field is answered by the user's resolver
beside : gives (asking (set_field (codes "item") 2 (leaf_field (codes "id") 3 end)
    (set_field (codes "__schema") 4 (leaf_field (codes "__typename") 5 end) end)))
    ≡ object (entry (codes "item") null (entry (codes "__schema") (object (entry (codes "__typename") (str (codes "__Schema")) no_entries)) no_entries))
unfolding gives
beside = refl

-- ## The introspection query

unfoldable the_query : Definition
the_query = operation (record {
  kind = query;
  name = Some (word (codes "IntrospectionQuery") 0);
  variables = None;
  directives = [];
  selections = set_field (codes "__schema") 0 (leaf_field (codes "description") 0
      (set_field (codes "queryType") 0 (leaf_field (codes "name") 0 end)
      (set_field (codes "mutationType") 0 (leaf_field (codes "name") 0 end)
      (set_field (codes "subscriptionType") 0 (leaf_field (codes "name") 0 end)
      (set_field (codes "types") 0 (spread_of (codes "FullType") 0 end)
      (set_field (codes "directives") 0 (leaf_field (codes "name") 0
      (leaf_field (codes "description") 0 (leaf_field (codes "isRepeatable") 0
      (leaf_field (codes "locations") 0 (set_field (codes "args") 0 (spread_of (codes "InputValue") 0 end) end))))) end)))))) end;
  span = span 0 0;
})

unfoldable full_type : Definition
full_type = fragment_on (codes "FullType") (codes "__Type") 0 (leaf_field (codes "kind") 0
    (leaf_field (codes "name") 0 (leaf_field (codes "description") 0
    (leaf_field (codes "specifiedByURL") 0 (given_field None (codes "fields") (codes "includeDeprecated") (i.scalar (boolean true)) 0 true
    (leaf_field (codes "name") 0 (leaf_field (codes "description") 0
    (set_field (codes "args") 0 (spread_of (codes "InputValue") 0 end)
    (set_field (codes "type") 0 (spread_of (codes "TypeRef") 0 end) (leaf_field (codes "isDeprecated") 0 (leaf_field (codes "deprecationReason") 0 end))))))
    (set_field (codes "inputFields") 0 (spread_of (codes "InputValue") 0 end)
    (set_field (codes "interfaces") 0 (spread_of (codes "TypeRef") 0 end)
    (given_field None (codes "enumValues") (codes "includeDeprecated") (i.scalar (boolean true)) 0 true
    (leaf_field (codes "name") 0 (leaf_field (codes "description") 0 (leaf_field (codes "isDeprecated") 0 (leaf_field (codes "deprecationReason") 0 end))))
    (set_field (codes "possibleTypes") 0 (spread_of (codes "TypeRef") 0 end) end)))))))))

unfoldable input_value : Definition
input_value = fragment_on (codes "InputValue") (codes "__InputValue") 0
    (leaf_field (codes "name") 0 (leaf_field (codes "description") 0
    (set_field (codes "type") 0 (spread_of (codes "TypeRef") 0 end) (leaf_field (codes "defaultValue") 0 end))))

unfoldable type_reference : Definition
type_reference = fragment_on (codes "TypeRef") (codes "__Type") 0
    (leaf_field (codes "kind") 0 (leaf_field (codes "name") 0 (set_field (codes "ofType") 0
    (leaf_field (codes "kind") 0 (leaf_field (codes "name") 0 (set_field (codes "ofType") 0
    (leaf_field (codes "kind") 0 (leaf_field (codes "name") 0 (set_field (codes "ofType") 0
    (leaf_field (codes "kind") 0 (leaf_field (codes "name") 0 (set_field (codes "ofType") 0
    (leaf_field (codes "kind") 0 (leaf_field (codes "name") 0 end)) end))) end))) end))) end)))

-- the text that `introspect` sends, as a document without places
unfoldable everything : Document
everything = the_query ∷ full_type ∷ input_value ∷ type_reference ∷ []

-- it is valid, also on the schema with a mutation type, and where introspection is disabled it is not
is_valid : (is_run (outcome false everything) ≡ true) × (is_run (outcome true everything) ≡ false)
unfolding outcome is_run everything the_query full_type input_value type_reference
is_valid = (refl, refl)

-- nothing fails
none_fails : failing (outcome false everything) ≡ []
unfolding outcome failing everything the_query full_type input_value type_reference
none_fails = refl
