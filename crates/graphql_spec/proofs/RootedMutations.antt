-- A mutation's run over users' nodes and over the root's.
use Rattle.std.proofs.Common.{refl, sym}
use Rattle.graphql_spec.specs.Fields.{is_possible}
use Rattle.graphql_spec.specs.Selections.{occurrences, keys}
use Rattle.graphql_spec.specs.Introspection.{user, rooted_concrete, rooted_answer}
use Rattle.graphql_spec.specs.IntrospectionLaws.{is_users_field, UsersMutate}
use Rattle.graphql_spec.proofs.SeenNodes.{selects-occurrences}
use Rattle.graphql_spec.proofs.SeenRuns.{run-seen}
use Rattle.graphql_spec.proofs.RootedUsers.{users_answer}

pub users_mutate : {C N : Type 0} → UsersMutate C N
unfolding rooted_concrete
users_mutate s vars top concrete answer m T selected e c =
    run-seen s vars user concrete answer (λ d. rooted_concrete top (concrete d)) (λ d. rooted_answer top s (answer d)) (λ d n. refl) is_users_field
    (λ d n f args p. sym (users_answer s top (answer d) n f args p)) m T (keys (occurrences (is_possible s) T selected))
    (occurrences (is_possible s) T selected)
    (selects-occurrences is_users_field (is_possible s) T selected e) c
