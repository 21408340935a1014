-- How nodes of a root answer, by the query's resolver (4, 6.4.2).
use Rattle.std.specs.Prelude.{ℕ, List}
use Rattle.graphql_spec.specs.Constants.{Members}
use Rattle.graphql_spec.specs.Resolvers.{Reply}
use Rattle.graphql_spec.specs.Schema.{Schema}
use Rattle.graphql_spec.specs.Shown.{Name}
use Rattle.juniper_intro.specs.HandleView.{of_handle, of_user, view_handle}
use Rattle.juniper_intro.specs.Handles.{handle_type, held_reply, held_user_reply}
use Rattle.juniper_intro.specs.declared.node.RootedNode.{RootedNode}
use Rattle.juniper_intro.specs.declared.node.RootedNode.TheVariants as node

module _ {N : Type 0} (concrete : N → Name) (top : N) where
  -- the object type of a node: the root stands for the query's own
  abbrev pub held_concrete : RootedNode N → Name
  held_concrete node.Root = concrete top
  held_concrete (node.User n) = concrete n
  held_concrete (node.Introspected h) = handle_type (view_handle h)

module _ {N : Type 0} (s : Schema) (names : List Name) (number : Name → ℕ) (answer : N → Name → Members → Reply N) where
  -- the reply of a user's node, among the root's nodes
  abbrev pub user_held : N → Name → Members → Reply (RootedNode N)
  user_held = held_user_reply of_user of_handle s names number answer

module _ {N : Type 0} (s : Schema) (names : List Name) (number : Name → ℕ) (answer : N → Name → Members → Reply N) (top : N) where
  -- the reply to a field: `__schema` and `__type` of the root and of users' nodes are the schema's, and all fields of introspection
  abbrev pub held_answer : RootedNode N → Name → Members → Reply (RootedNode N)
  held_answer node.Root f args = held_user_reply of_user of_handle s names number answer top f args
  held_answer (node.User n) f args = held_user_reply of_user of_handle s names number answer n f args
  held_answer (node.Introspected h) f args = held_reply of_user of_handle s names number (view_handle h) f args
