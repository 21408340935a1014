-- Users' nodes among the root's.
use Rattle.std.proofs.Common.{◌≡◌, ◌<◌, ℕ, false, cond, ◌++◌, List, [], ◌∷◌, Option, Some, None, length, map, refl, sym, ap, subst, arith, rules}
use Rattle.std.specs.Prelude.{Result, option_map, unwrap_or}
use Rattle.std.proofs.lemmas.List.{append-nil, append_assoc, length-map}
use Rattle.graphql_spec.specs.Constants.{Members}
use Rattle.graphql_spec.specs.Introspection.{answer_at}
use Rattle.graphql_spec.specs.Resolvers.{Reply, answered}
use Rattle.graphql_spec.specs.Rules.{is_introspection}
use Rattle.graphql_spec.specs.Schema.{Schema}
use Rattle.graphql_spec.specs.SeenNodes.{map_reply, map_tree}
use Rattle.graphql_spec.specs.Shown.{Name, Shown}
use Rattle.juniper_conversions.specs.declared.field_error.ResolveError.{ResolveError}
use Rattle.juniper_values.specs.ResolvedView.{AllAnswer, Answers}
use Rattle.juniper_values.specs.declared.resolved.Resolved.{Resolved}
use Rattle.juniper_intro.specs.HandleView.{of_handle, of_user, users_in}
use Rattle.juniper_intro.specs.Handles.{Handle, held_user_reply, root_held}
use Rattle.juniper_intro.specs.HeldReplies.{held_answer}
use Rattle.juniper_intro.specs.declared.node.RootedNode.{RootedNode}
use Rattle.juniper_intro.specs.declared.node.RootedNode.TheVariants as node

headed : {N : Type 0} (n : N) (rs : List (RootedNode N)) (o : Option (List N)) (ns : List N) → ((l : List N) → o ≡ Some l → rs ≡ map of_user l) →
    option_map (λ l. n ∷ l) o ≡ Some ns → node.User n ∷ rs ≡ map of_user ns
headed n rs None ns are e = search rules
headed n rs (Some l) ns are e = subst (λ m. node.User n ∷ rs ≡ map of_user m) (ap (λ o. unwrap_or o []) e) (ap (λ m. node.User n ∷ m) (are l refl))

-- they are those nodes
pub users-are : {N : Type 0} (rs : List (RootedNode N)) (ns : List N) → users_in rs ≡ Some ns → rs ≡ map of_user ns
users-are [] ns e = ap (λ o. map of_user (unwrap_or o [])) e
users-are (node.User n ∷ rs) ns e = headed n rs (users_in rs) ns (users-are rs) e
users-are (node.Root ∷ rs) ns e = search rules
users-are (node.Introspected h ∷ rs) ns e = search rules

-- so there are as many
pub users-some : {N : Type 0} (rs : List (RootedNode N)) (ns : List N) → users_in rs ≡ Some ns → 0 < length rs → 0 < length ns
users-some rs ns e some =
    let same = ap length (users-are rs ns e) in
    let counted = length-map ns of_user in
    omega (arith, same, counted, some)

-- ## Answers among the root's nodes

-- the same answers, to nodes that are seen otherwise
pub answers-seen : {M N R S : Type 0} (shown : S → Shown) (f : M → N) (reply : M → Reply R) (other : N → Reply R) → ((m : M) → other (f m) ≡ reply m) →
    (ms : List M) (answers : List (Result (Resolved R S) (ResolveError S))) → AllAnswer shown reply ms answers → AllAnswer shown other (map f ms) answers
answers-seen shown f reply other same [] [] all = record {}
answers-seen shown f reply other same [] (a ∷ answers) all = absurd all
answers-seen shown f reply other same (m ∷ ms) [] all = absurd all
answers-seen shown f reply other same (m ∷ ms) (a ∷ answers) all =
    (subst (Answers shown a) (sym (same m)) all.0, answers-seen shown f reply other same ms answers all.1)

-- but for introspection, a user's node answers what the user's resolver does
pub user-plain : {N R : Type 0} (user : N → R) (handle : Handle → R) (s : Schema) (names : List Name) (number : Name → ℕ)
    (answer : N → Name → Members → Reply N) (n : N) (f : Name) (args : Members) → is_introspection f ≡ false →
    held_user_reply user handle s names number answer n f args ≡ map_reply user (answer n f args)
unfolding held_user_reply
user-plain user handle s names number answer n f args e =
    ap (λ b. cond b (answered (map_tree handle (answer_at f (root_held s names number args)))) (map_reply user (answer n f args))) e

-- all of them, asked at once
pub users-answer : {N S : Type 0} (shown : S → Shown) (s : Schema) (names : List Name) (number : Name → ℕ) (answer : N → Name → Members → Reply N) (top : N)
    (f : Name) (args : Members) (rs : List (RootedNode N)) (ns : List N) (answers : List (Result (Resolved (RootedNode N) S) (ResolveError S))) →
    is_introspection f ≡ false → users_in rs ≡ Some ns → AllAnswer shown (λ n. map_reply of_user (answer n f args)) ns answers →
    AllAnswer shown (λ r. held_answer s names number answer top r f args) rs answers
users-answer shown s names number answer top f args rs ns answers plain users all =
    subst (λ l. AllAnswer shown (λ r. held_answer s names number answer top r f args) l answers) (sym (users-are rs ns users))
    (answers-seen shown of_user (λ n. map_reply of_user (answer n f args)) (λ r. held_answer s names number answer top r f args)
    (λ m. user-plain of_user of_handle s names number answer m f args plain) ns answers all)

module _ {N S : Type 0} (shown : S → Shown) where
  -- each is the answer of the root's node, where the other is that of the user's
  abbrev pub AllRooted : List (Result (Resolved N S) (ResolveError S)) → List (Result (Resolved (RootedNode N) S) (ResolveError S)) → Type 0
  AllRooted [] [] = Unit {0}
  AllRooted (a ∷ answers) (b ∷ made) = ((reply : Reply N) → Answers shown a reply → Answers shown b (map_reply of_user reply)) × AllRooted answers made
  AllRooted answers made = ⊥

  -- what is made goes before what is still to come
  abbrev pub AreRooted : List (Result (Resolved (RootedNode N) S) (ResolveError S)) → List (Result (Resolved N S) (ResolveError S)) →
      List (Result (Resolved N S) (ResolveError S)) → Type 0
  AreRooted made left all = (rest : List (Result (Resolved (RootedNode N) S) (ResolveError S))) → AllRooted left rest → AllRooted all (made ++ rest)

  pub rooted-start : (made : List (Result (Resolved (RootedNode N) S) (ResolveError S))) (all : List (Result (Resolved N S) (ResolveError S))) →
      made ≡ [] → AreRooted made all all
  rooted-start made all e rest are = subst (λ m. AllRooted all (m ++ rest)) (sym e) are

  pub rooted-turn : (made new : List (Result (Resolved (RootedNode N) S) (ResolveError S))) (left next all : List (Result (Resolved N S) (ResolveError S)))
      (a : Result (Resolved N S) (ResolveError S)) (b : Result (Resolved (RootedNode N) S) (ResolveError S)) → AreRooted made left all →
      left ≡ a ∷ next → new ≡ made ++ b ∷ [] → ((reply : Reply N) → Answers shown a reply → Answers shown b (map_reply of_user reply)) →
      AreRooted new next all
  rooted-turn made new left next all a b are e push one rest follow =
      subst (λ m. AllRooted all (m ++ rest)) (sym push) (subst (AllRooted all) (sym (append_assoc made (b ∷ []) rest))
      (are (b ∷ rest) (subst (λ l. AllRooted l (b ∷ rest)) (sym e) (one, follow))))

  pub rooted-end : (made : List (Result (Resolved (RootedNode N) S) (ResolveError S))) (left all : List (Result (Resolved N S) (ResolveError S))) →
      left ≡ [] → AreRooted made left all → AllRooted all made
  rooted-end made left all e are = subst (AllRooted all) (append-nil made) (are [] (subst (λ l. AllRooted l []) (sym e) (record {})))

  pub rooted-all : (reply : N → Reply N) (nodes : List N) (told : List (Result (Resolved N S) (ResolveError S)))
      (made : List (Result (Resolved (RootedNode N) S) (ResolveError S))) → AllRooted told made → AllAnswer shown reply nodes told →
      AllAnswer shown (λ n. map_reply of_user (reply n)) nodes made
  rooted-all reply [] [] [] are all = record {}
  rooted-all reply [] [] (b ∷ made) are all = absurd are
  rooted-all reply [] (a ∷ told) made are all = absurd all
  rooted-all reply (n ∷ nodes) [] made are all = absurd all
  rooted-all reply (n ∷ nodes) (a ∷ told) [] are all = absurd are
  rooted-all reply (n ∷ nodes) (a ∷ told) (b ∷ made) are all = (are.0 (reply n) all.0, rooted-all reply nodes told made are.1 all.1)
