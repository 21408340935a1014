-- What holds of introspection, as statements (4).
use Rattle.std.specs.Prelude.{false, ℕ, Bool, true, not, suc, ◌≡◌, ◌&&◌, ◌||◌, ◌↔◌, List, [], Option, Some, IsTrue}
use Rattle.std.specs.List.{list_all}
use Rattle.std.specs.Option.{is_some}
use Rattle.std.specs.Str.{bytes_eq}
use Rattle.graphql_spec.specs.Shown.{Name, text}
use Rattle.graphql_spec.specs.Types.{innermost}
use Rattle.graphql_spec.specs.Inputs.{Variables}
use Rattle.graphql_spec.specs.Constants.{Members}
use Rattle.graphql_spec.specs.Documents.{Head, Operation, query, Document}
use Rattle.graphql_spec.specs.Positions.{Position}
use Rattle.graphql_spec.specs.Schema.{InputDeclaration, FieldDeclaration, Schema}
use Rattle.graphql_spec.specs.Fields.{shape_of, leaf_accepts, typename, is_possible}
use Rattle.graphql_spec.specs.Executable.{is_executable}
use Rattle.graphql_spec.specs.Errors.{Place}
use Rattle.graphql_spec.specs.BuiltIns.{location_type}
use Rattle.graphql_spec.specs.Selections.{Forest, Occurrence, occurrences, keys, with_key}
use Rattle.graphql_spec.specs.Mutation.{run}
use Rattle.graphql_spec.specs.Resolvers.{Reply, answered, World, world_of}
use Rattle.graphql_spec.specs.Execution.{reply_to}
use Rattle.graphql_spec.specs.Failures.{reply_faults, key_failures, failures, failures_of}
use Rattle.graphql_spec.specs.Laws.{Agree}
use Rattle.graphql_spec.specs.Overlap.{declares_field}
use Rattle.graphql_spec.specs.ValidityLaws.{AreDeclared}
use Rattle.graphql_spec.specs.Rules.{is_introspection}
use Rattle.graphql_spec.specs.Requests.{of_document, runs, selected}
use Rattle.graphql_spec.specs.Outcomes.{IsOutcome, Request, Response, Service, Steps}
use Rattle.graphql_spec.specs.SeenServices.{mutation_of, seen_steps}
use Rattle.graphql_spec.specs.SeenNodes.{map_reply, selects_only, IsSameRun}
use Rattle.graphql_spec.specs.Introspected.{declaration_of, declared_kind}
use Rattle.graphql_spec.specs.Introspection.{Introspected, RootedNode, directive_node, field_node, input_node, introspect, introspected, introspection_type}
use Rattle.graphql_spec.specs.Introspection.{root, rooted_answer, rooted_concrete, rooted_service, rooted_world, schema_node, type_node, user, value_node}

-- ## Users' nodes

-- a field other than `__schema` and `__type`
unfoldable pub is_users_field : Name → Bool
is_users_field f = not (is_introspection f)

-- to such a field a user's node is answered by the user's resolver alone
abbrev pub UsersAnswer : Type 0 → Type 0
UsersAnswer N = (s : Schema) (top : N) (answer : N → Name → Members → Reply N) (n : N) (f : Name) (args : Members) → IsTrue (is_users_field f) →
    rooted_answer top s answer (user n) f args ≡ map_reply user (answer n f args)

-- the root stands for the user's own root
abbrev pub RootStands : Type 0 → Type 0
RootStands N = (s : Schema) (vars : Variables) (top : N) (concrete : N → Name) (answer : N → Name → Members → Reply N) (T : Name) (selected : Forest) →
    IsSameRun (rooted_world top s vars concrete answer) (rooted_world top s vars concrete answer) T root (user top) selected

-- Where neither `__schema` nor `__type` is selected, the execution on the root is that of the user's resolver on its own root.
abbrev pub UsersExecute : Type 0 → Type 0
UsersExecute N = (s : Schema) (vars : Variables) (top : N) (concrete : N → Name) (answer : N → Name → Members → Reply N) (T : Name) (selected : Forest) →
    IsTrue (selects_only is_users_field selected) → IsSameRun (world_of s vars concrete answer) (rooted_world top s vars concrete answer) T top root selected

-- So is a mutation: the same groups run, with the same values, contexts and failures (6.2.2).
abbrev pub UsersMutate : Type 0 → Type 0 → Type 0
UsersMutate C N = (s : Schema) (vars : Variables) (top : N) (concrete : C → N → Name) (answer : C → N → Name → Members → Reply N) (m : Steps C N)
    (T : Name) (selected : Forest) → IsTrue (selects_only is_users_field selected) → (c : C) →
    let os : List Occurrence = occurrences (is_possible s) T selected in
    run (mutation_of s vars concrete answer m) T (keys os) os c
    ≡ run (mutation_of s vars (λ d. rooted_concrete top (concrete d)) (λ d. rooted_answer top s (answer d)) (seen_steps user m)) T (keys os) os c

-- Where introspection is disabled, a request that runs selects neither of the two.
abbrev pub DisabledLooksNowhere : Type 0
DisabledLooksNowhere = (s : Schema) (n : Option Name) (given : Variables) (read : Option Document) (d : Document) (o : Operation) (vars : Variables) →
    of_document s true n given read ≡ runs d o vars → IsTrue (selects_only is_users_field (selected d o vars))

-- So there the outcomes of a request are those of the service without introspection (6.1).
abbrev pub UsersOutcomes : Type 0 → Type 0 → Type 0
UsersOutcomes C N = (S : Service C N) → S.introspection_disabled ≡ true → (tell : Place → Place) (q : Request) (c : C) (r : Response) (after : C) →
    IsOutcome (rooted_service S) tell q c r after ↔ IsOutcome S tell q c r after

-- ## Nodes of introspection

-- what is declared at the name is of some kind
unfoldable pub knows : Schema → Name → Bool
knows s n = is_some (declared_kind (shape_of (declaration_of s n)))

-- the type of an argument or input field is known
unfoldable pub knows_input : Schema → InputDeclaration → Bool
knows_input s d = knows s (innermost d.of_type)

-- the types of a field and of its arguments are known
unfoldable pub knows_field : Schema → FieldDeclaration → Bool
knows_field s f = knows s (innermost f.of_type) && list_all (knows_input s) f.arguments

-- one of the places where directives may stand (3.13)
unfoldable pub is_location : Name → Bool
is_location place = leaf_accepts (Some location_type.shape) (text place)

-- a node of this schema: the types that it speaks of are known there
unfoldable pub is_node_of : Schema → Introspected → Bool
is_node_of s schema_node = true
is_node_of s (type_node t) = knows s (innermost t)
is_node_of s (field_node f) = knows_field s f
is_node_of s (input_node d) = knows_input s d
is_node_of s (value_node v) = true
is_node_of s (directive_node d) = list_all is_location d.locations && list_all (knows_input s) d.arguments

-- the world of introspection alone
unfoldable pub introspection_world : Schema → Variables → World Introspected
introspection_world s vars = world_of s vars introspection_type (λ x f args. answered (introspect s x f args))

-- Of a schema that can be executed: the reply to each declared field of a node fits the field's type, so nothing fails at its place.
abbrev pub RepliesFit : Type 0
RepliesFit = (s : Schema) → IsTrue (is_executable s) → (vars : Variables) (x : Introspected) → IsTrue (is_node_of s x) →
    (h : Head) → IsTrue (declares_field s (introspection_type x) h.name.item) → (here above : Place) (starts : List Position) →
    let W : World Introspected = introspection_world s vars in
    reply_faults W (λ place to T n. []) here starts above (W.field_type (introspection_type x) h.name.item) (reply_to W (introspection_type x) x h) ≡ []

-- And nothing fails below it either, where all that is selected is declared.
abbrev pub IntrospectionNeverFails : Type 0
IntrospectionNeverFails = (s : Schema) → IsTrue (is_executable s) → (vars : Variables) (x : Introspected) → IsTrue (is_node_of s x) →
    let W : World Introspected = introspection_world s vars in
    (d : ℕ) (os : List Occurrence) → Agree W d (introspection_type x) os → AreDeclared s d (introspection_type x) os → (here above : Place) →
    failures W d here above (introspection_type x) x os ≡ []

-- `__schema`, `__type` or `__typename`
unfoldable pub asks_schema : Occurrence → Bool
asks_schema o = is_introspection o.head.name.item || bytes_eq o.head.name.item typename

-- the root, or a user's node
unfoldable pub is_users : {N : Type 0} → RootedNode N → Bool
is_users root = true
is_users (user n) = true
is_users (introspected x) = false

-- Where the root or a user's node is executed as the query type, nothing fails at a response key that asks about the schema, nor
-- below it: so all that fails in a query fails at users' fields.
abbrev pub IntrospectionAddsNone : Type 0 → Type 0
IntrospectionAddsNone N = (s : Schema) → IsTrue (is_executable s) → (vars : Variables) (top : N) (concrete : N → Name) (answer : N → Name → Members → Reply N) →
    let V : World (RootedNode N) = rooted_world top s vars concrete answer in
    (m : RootedNode N) → IsTrue (is_users m) → (d : ℕ) (os : List Occurrence) → Agree V (suc d) s.query os → AreDeclared s (suc d) s.query os →
    (k : Name) → IsTrue (list_all asks_schema (with_key k os)) → (here above : Place) → key_failures V (failures V d) here above s.query m (with_key k os) ≡ []

-- A request that runs and asks the query type about the schema alone: nothing fails in it.
abbrev pub LookingNeverFails : Type 0 → Type 0
LookingNeverFails N = (s : Schema) → IsTrue (is_executable s) → (disabled : Bool) (n : Option Name) (given : Variables) (read : Option Document) (d : Document)
    (o : Operation) (vars : Variables) →
    of_document s disabled n given read ≡ runs d o vars → o.kind ≡ query →
    list_all asks_schema (occurrences (is_possible s) s.query (selected d o vars)) ≡ true →
    (top : N) (concrete : N → Name) (answer : N → Name → Members → Reply N) →
    failures_of (rooted_world top s vars concrete answer) [] [] s.query root (selected d o vars) ≡ []
