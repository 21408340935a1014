-- What a root's nodes reply is what is defined of the nodes that they mean.
use Rattle.std.proofs.Common.{◌≡◌, ℕ, List, IsTrue, true, refl, ap}
use Rattle.graphql_spec.specs.Constants.{Members}
use Rattle.graphql_spec.specs.Executable.{is_executable}
use Rattle.graphql_spec.specs.Introspection as rooted
use Rattle.graphql_spec.specs.Introspection.{introspect, introspected, rooted_answer, rooted_concrete, user_reply}
use Rattle.graphql_spec.specs.Resolvers.{Reply, answered}
use Rattle.graphql_spec.specs.Schema.{Schema}
use Rattle.graphql_spec.specs.SeenNodes.{map_reply, map_tree}
use Rattle.graphql_spec.specs.Shown.{Name}
use Rattle.juniper_intro.proofs.Held.{handle-type, held_nodes_serve}
use Rattle.juniper_intro.specs.HandleView.{code_handle, code_input, code_type, of_handle, of_user, view_handle, view_input_place, view_node, view_type_place}
use Rattle.juniper_intro.specs.Handles as spec
use Rattle.juniper_intro.specs.Handles.{AllAreNamed, held_reply, held_user_reply, meant}
use Rattle.juniper_intro.specs.HeldReplies.{held_answer, held_concrete}
use Rattle.juniper_intro.specs.Tops.{is_top}
use Rattle.juniper_intro.specs.declared.node.RootedNode.{RootedNode}
use Rattle.juniper_intro.specs.declared.node.RootedNode.TheVariants as node

input-coded : (p : spec.InputPlace) → view_input_place (code_input p) ≡ p
input-coded (spec.of_field i j k) = refl
input-coded (spec.of_input_object i j) = refl
input-coded (spec.of_directive i j) = refl

type-coded : (p : spec.TypePlace) → view_type_place (code_type p) ≡ p
type-coded (spec.by_name i) = refl
type-coded (spec.at_field i j) = refl
type-coded (spec.at_input p) = ap (λ q. spec.at_input q) (input-coded p)

handle-coded : (h : spec.Handle) → view_handle (code_handle h) ≡ h
handle-coded spec.schema_handle = refl
handle-coded (spec.type_handle p d) = ap (λ q. spec.type_handle q d) (type-coded p)
handle-coded (spec.field_handle i j) = refl
handle-coded (spec.input_handle p) = ap (λ q. spec.input_handle q) (input-coded p)
handle-coded (spec.value_handle i j) = refl
handle-coded (spec.directive_handle i) = refl

-- the root is seen as the root
pub top-seen : {N : Type 0} (s : Schema) (names : List Name) (n : RootedNode N) → is_top n ≡ true → view_node s names n ≡ rooted.root
top-seen s names node.Root e = refl
top-seen s names (node.User n) e = cc
top-seen s names (node.Introspected h) e = cc

module _ {N : Type 0} (s : Schema) (names : List Name) (concrete : N → Name) (top : N) where
  pub types-rooted : (n : RootedNode N) → held_concrete concrete top n ≡ rooted_concrete top concrete (view_node s names n)
  unfolding rooted_concrete
  types-rooted node.Root = refl
  types-rooted (node.User n) = refl
  types-rooted (node.Introspected h) = handle-type s names (view_handle h)

module _ {N : Type 0} (s : Schema) (executable : IsTrue (is_executable s)) (names : List Name) (number : Name → ℕ) (all : AllAreNamed s names number)
    (answer : N → Name → Members → Reply N) (top : N) where
  -- of the nodes that code holds, as they are seen
  abbrev Serve : Type 0
  Serve =
      ((n : N) (f : Name) (args : Members) → map_reply (view_node s names) (held_user_reply of_user of_handle s names number answer n f args)
      ≡ user_reply top s answer n f args)
      × ((h : spec.Handle) (f : Name) (args : Members) →
      map_reply (view_node {N = N} s names) (held_reply (of_user {N = N}) of_handle s names number h f args)
      ≡ answered (map_tree introspected (introspect s (meant s names h) f args)))

  serve : Serve
  serve =
      let both = held_nodes_serve s executable names number all of_user of_handle (view_node s names) (λ m. refl)
      (λ h. ap (λ k. introspected (meant s names k)) (handle-coded h)) in
      (λ n f args. both.0 top answer n f args, both.1)

  pub replies-rooted : (n : RootedNode N) (f : Name) (args : Members) →
      map_reply (view_node s names) (held_answer s names number answer top n f args) ≡ rooted_answer top s answer (view_node s names n) f args
  unfolding rooted_answer
  replies-rooted node.Root f args = serve.0 top f args
  replies-rooted (node.User n) f args = serve.0 n f args
  replies-rooted (node.Introspected h) f args = serve.1 (view_handle h) f args
