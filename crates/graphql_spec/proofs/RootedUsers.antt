-- Users' nodes are answered by the user's resolver.
use Rattle.std.proofs.Common.{◌≡◌, ◌++◌, ℕ, zero, suc, List, [], ◌∷◌, refl, sym, ap, ◌∙◌}
use Rattle.std.proofs.lemmas.Bool.{not-true}
use Rattle.std.specs.List.{flat_map}
use Rattle.graphql_spec.specs.Shown.{Name}
use Rattle.graphql_spec.specs.Constants.{Members}
use Rattle.graphql_spec.specs.Schema.{Schema}
use Rattle.graphql_spec.specs.Errors.{Place, key}
use Rattle.graphql_spec.specs.Selections.{Occurrence, depth, occurrences, keys, with_key, all_below}
use Rattle.graphql_spec.specs.Resolvers.{Reply, World, world_of}
use Rattle.graphql_spec.specs.Execution.{whole_object, finish, type_of, reply_to, reply_of, of_key, grouped, data_of}
use Rattle.graphql_spec.specs.Failures.{starts_of, reply_faults, key_failures, failures, failures_of}
use Rattle.graphql_spec.specs.Nulls.{reply_standing, key_standing, nulls, nulls_of}
use Rattle.graphql_spec.specs.Rules.{is_introspection}
use Rattle.graphql_spec.specs.Introspection.{root, user, rooted_concrete, user_reply, rooted_answer, rooted_world}
use Rattle.graphql_spec.specs.IntrospectionLaws.{UsersAnswer, RootStands, is_users_field, UsersExecute}
use Rattle.graphql_spec.proofs.SeenNodes.{seen_alike}

pub users_answer : {N : Type 0} → UsersAnswer N
unfolding rooted_answer user_reply is_users_field
users_answer s top answer n f args e = rw (not-true (is_introspection f) e) refl

-- two nodes of a world that reply alike have the same object
module _ {N : Type 0} (W : World N) (T : Name) (m n : N) (same : (f : Name) (args : Members) → W.answer m f args ≡ W.answer n f args) where
  replies-alike : (os : List Occurrence) → reply_of W T m os ≡ reply_of W T n os
  unfolding reply_of reply_to
  replies-alike [] = refl
  replies-alike (o ∷ os) = rw (same o.head.name.item (W.arguments T o.head)) refl

  grouped-alike : (d : ℕ) (os : List Occurrence) → grouped W d T m os ≡ grouped W d T n os
  unfolding grouped of_key
  grouped-alike zero os = refl
  grouped-alike (suc d) os = ap (λ (r : Name → Reply N). whole_object (keys os) (λ k. type_of W T (with_key k os))
      (λ k. finish W (λ U n. grouped W d U n (occurrences W.possible U (all_below (with_key k os)))) (type_of W T (with_key k os)) (r k)))
      (λ i k. replies-alike (with_key k os) i)

  failures-alike : (d : ℕ) (here above : Place) (os : List Occurrence) → failures W d here above T m os ≡ failures W d here above T n os
  unfolding failures key_failures
  failures-alike zero here above os = refl
  failures-alike (suc d) here above os = ap (λ (r : Name → Reply N). flat_map
      (λ k. reply_faults W (λ place to U n. failures W d place to U n (occurrences W.possible U (all_below (with_key k os))))
      (here ++ key k ∷ []) (starts_of (with_key k os)) above (type_of W T (with_key k os)) (r k)) (keys os)) (λ i k. replies-alike (with_key k os) i)

  nulls-alike : (d : ℕ) (here : Place) (os : List Occurrence) → nulls W d here T m os ≡ nulls W d here T n os
  unfolding nulls key_standing
  nulls-alike zero here os = refl
  nulls-alike (suc d) here os = ap (λ (r : Name → Reply N). flat_map
      (λ k. reply_standing W (λ U n. grouped W d U n (occurrences W.possible U (all_below (with_key k os))))
      (λ place U n. nulls W d place U n (occurrences W.possible U (all_below (with_key k os))))
      (here ++ key k ∷ []) (type_of W T (with_key k os)) (r k)) (keys os)) (λ i k. replies-alike (with_key k os) i)

same-answers : {N : Type 0} (top : N) (answer : N → Name → Members → Reply N) (s : Schema) (f : Name) (args : Members) →
    rooted_answer top s answer root f args ≡ rooted_answer top s answer (user top) f args
unfolding rooted_answer
same-answers top answer s f args = refl

pub root_stands : {N : Type 0} → RootStands N
unfolding data_of failures_of nulls_of world_of rooted_world
root_stands s vars top concrete answer T selected = let W = rooted_world top s vars concrete answer in record {
  data_is = grouped-alike W T root (user top) (same-answers top answer s) (depth selected) (occurrences W.possible T selected);
  failures_are = λ here above. failures-alike W T root (user top) (same-answers top answer s) (depth selected) here above (occurrences W.possible T selected);
  nulls_are = λ here. nulls-alike W T root (user top) (same-answers top answer s) (depth selected) here (occurrences W.possible T selected);
}

pub users_execute : {N : Type 0} → UsersExecute N
unfolding rooted_concrete rooted_world
users_execute s vars top concrete answer T selected e =
    let a = seen_alike s vars user is_users_field concrete answer (rooted_concrete top concrete) (rooted_answer top s answer) (λ m. refl)
    (λ m f args p. sym (users_answer s top answer m f args p)) T top selected e in
    let b = root_stands s vars top concrete answer T selected in record {
      data_is = a.data_is ∙ sym b.data_is;
      failures_are = λ here above. a.failures_are here above ∙ sym (b.failures_are here above);
      nulls_are = λ here. a.nulls_are here ∙ sym (b.nulls_are here);
    }
