-- What the request's execution gives (6.2.1).
use Rattle.std.specs.Prelude.{◌≡◌, codes, List, [], ◌∷◌, Option}
use Rattle.std.proofs.Common.{refl}
use Rattle.graphql_spec.specs.Shown.{Name, text, shown_boolean}
use Rattle.graphql_spec.specs.Types.{required}
use Rattle.graphql_spec.specs.Inputs.{Variables}
use Rattle.graphql_spec.specs.Constants.{Members, no_members}
use Rattle.graphql_spec.specs.Arguments.{coerced_arguments, with_defaults, given}
use Rattle.graphql_spec.specs.Documents.{name_or, response_key, written, fragments}
use Rattle.graphql_spec.specs.Schema.{Entry, plain_field}
use Rattle.graphql_spec.specs.Fields.{declared_type, declared_arguments, accepts, leaf_accepts, accepts_kind}
use Rattle.graphql_spec.specs.Values.{Value, null, scalar, object, entry, no_entries, is_null}
use Rattle.graphql_spec.specs.Resolvers.{Error, Reply, World, leaf, answered, failed, world_of}
use Rattle.graphql_spec.specs.Selections.{Forest, occurrences, depth, keys, drop_key, with_key, all_below}
use Rattle.graphql_spec.specs.Directives.{admits, passes, condition_of, argument_named, looked_up, as_boolean, boolean_of, is_boolean}
use Rattle.graphql_spec.specs.Fragments.{expand, plain, contents}
use Rattle.graphql_spec.specs.Errors.{Place, key}
use Rattle.graphql_spec.specs.Execution.{whole_object, is_lost, entries, complete, finish, type_of, reply_to, reply_of, of_key, grouped, data_of}
use Rattle.graphql_spec.specs.Failures.{Failure, landing, starts_of, faults, reply_faults, key_failures, failures, failures_of}
use Rattle.graphql_spec.specs.Requests.{selected}
use Rattle.graphql_spec.specs.Rules.{is_introspection}
use Rattle.graphql_spec.specs.SeenNodes.{map_tree, map_reply}
use Rattle.graphql_spec.specs.Introspection.{RootedNode, root, rooted_concrete, rooted_answer, user_reply}
use Rattle.graphql_spec.proofs.Demo.{at}
use Rattle.juniper_demo.proofs.Request.{the_document, the_operation, first_id, again, failing, last_id}
use Rattle.juniper_demo.proofs.Declared.{Declares, queried}

-- what is selected, whatever the variables
abbrev pub the_forest : Forest
the_forest = Forest.field first_id Forest.end (Forest.field again Forest.end (Forest.field failing Forest.end (Forest.field last_id Forest.end Forest.end)))

pub is_selected : (vars : Variables) → selected the_document the_operation vars ≡ the_forest
unfolding selected expand plain contents fragments admits passes condition_of argument_named looked_up as_boolean boolean_of is_boolean written
    shown_boolean
is_selected vars = refl

abbrev pub the_data : Value
the_data = object (entry (codes "id") (scalar (text (codes "q1"))) (entry (codes "again") (scalar (text (codes "q1"))) (entry (codes "fail") null no_entries)))

abbrev pub the_error : Error
the_error = record { message = codes "failed"; extensions = null }

abbrev pub the_place : Place
the_place = key (codes "fail") ∷ []

abbrev pub the_failure : Failure
the_failure = record { path = the_place; starts = at 36 ∷ []; error = the_error; rises_to = the_place }

-- a resolver that answers so on its root
module _ {N : Type 0} (es : List Entry) (m : Option Name) (known : Declares (queried es m)) (vars : Variables) (top : N) (concrete : N → Name)
    (answer : N → Name → Members → Reply N) (ids : answer top (codes "id") no_members ≡ answered (leaf (text (codes "q1"))))
    (fails : answer top (codes "fail") no_members ≡ failed the_error) where
  abbrev pub W : World (RootedNode N)
  W = world_of (queried es m) vars (rooted_concrete top concrete) (rooted_answer top (queried es m) answer)

  pub is_data : data_of W (codes "Query") root the_forest ≡ the_data
  unfolding world_of data_of depth occurrences grouped whole_object is_lost entries keys drop_key with_key response_key name_or of_key finish complete
      type_of reply_of reply_to all_below required is_null declared_type declared_arguments plain_field coerced_arguments with_defaults given written
      rooted_answer user_reply is_introspection map_reply map_tree accepts leaf_accepts accepts_kind
  is_data = rw (known.id, known.fail, ids, fails, known.ids) refl

  pub are_failures : failures_of W [] [] (codes "Query") root the_forest ≡ the_failure ∷ []
  unfolding world_of failures_of failures depth occurrences keys drop_key with_key response_key name_or key_failures reply_faults faults landing
      starts_of type_of reply_of reply_to all_below required declared_type declared_arguments plain_field coerced_arguments with_defaults given written
      rooted_answer user_reply is_introspection map_reply map_tree accepts leaf_accepts accepts_kind
  are_failures = rw (known.id, known.fail, ids, fails, known.ids) refl
