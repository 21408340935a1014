-- What a root's nodes reply, told of the nodes that they mean (4).
use Rattle.std.specs.Prelude.{ℕ, ◌≡◌, List, IsTrue}
use Rattle.graphql_spec.specs.Constants.{Members}
use Rattle.graphql_spec.specs.Executable.{is_executable}
use Rattle.graphql_spec.specs.Introspection as rooted
use Rattle.graphql_spec.specs.Introspection.{rooted_answer, rooted_concrete}
use Rattle.graphql_spec.specs.Resolvers.{Reply}
use Rattle.graphql_spec.specs.Schema.{Schema}
use Rattle.graphql_spec.specs.SeenNodes.{map_reply}
use Rattle.graphql_spec.specs.Shown.{Name}
use Rattle.juniper_intro.specs.HandleView.{of_user, view_node}
use Rattle.juniper_intro.specs.Handles.{AllAreNamed}
use Rattle.juniper_intro.specs.HeldReplies.{held_answer, held_concrete}
use Rattle.juniper_intro.specs.declared.node.RootedNode.{RootedNode}

-- a node has the object type of the node that it means
abbrev pub TypesAreRooted : Type 0 → Type 0
TypesAreRooted N = (s : Schema) (names : List Name) (concrete : N → Name) (top : N) (n : RootedNode N) →
    held_concrete concrete top n ≡ rooted_concrete top concrete (view_node s names n)

-- and replies what that one is defined to reply
abbrev pub RepliesAreRooted : Type 0 → Type 0
RepliesAreRooted N = (s : Schema) → IsTrue (is_executable s) → (names : List Name) (number : Name → ℕ) → AllAreNamed s names number →
    (answer : N → Name → Members → Reply N) (top : N)
    (n : RootedNode N) (f : Name) (args : Members) → map_reply (view_node s names) (held_answer s names number answer top n f args)
    ≡ rooted_answer top s answer (view_node s names n) f args

-- ## Of resolvers whose nodes are seen as a root's

module _ {I C N R : Type 0} (sees : R → rooted.RootedNode N) (top : N) where
  -- a node has the object type of the node that it is seen as
  abbrev pub TypesAreSeen : (I → C → N → Name) → (I → C → R → Name) → Type 0
  TypesAreSeen concrete held = (i : I) (c : C) (n : R) → held i c n ≡ rooted_concrete top (concrete i c) (sees n)

  -- what it replies is seen as what that one is defined to reply
  abbrev pub RepliesAreSeen : Schema → (I → C → N → Name → Members → Reply N) → (I → C → R → Name → Members → Reply R) → Type 0
  RepliesAreSeen s answer held = (i : I) (c : C) (n : R) (f : Name) (args : Members) →
      map_reply sees (held i c n f args) ≡ rooted_answer top s (answer i c) (sees n) f args

-- what a user's resolver replies is seen as it is
module _ {N : Type 0} where
  abbrev pub UsersAreSeen : (RootedNode N → rooted.RootedNode N) → Type 0
  UsersAreSeen sees = (reply : Reply N) → map_reply sees (map_reply of_user reply) ≡ map_reply rooted.user reply
