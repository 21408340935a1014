-- Lists of nodes of introspection, as code collects them (4.2).
use Rattle.std.specs.Prelude.{ℕ, List, map}
use Rattle.graphql_spec.specs.Resolvers.{Tree, node}
use Rattle.juniper_intro.specs.Handles as spec
use Rattle.juniper_intro.specs.HandleView.{of_handle}
use Rattle.juniper_intro.specs.declared.nodes.InputOwner.{InputOwner}
use Rattle.juniper_intro.specs.declared.nodes.InputOwner.TheVariants as owner
use Rattle.juniper_intro.specs.declared.node.RootedNode.{RootedNode}

-- ## Only private clauses cite what follows

-- a node for each of these
abbrev pub a_node_each : {A N : Type 0} → (A → spec.Handle) → List A → List (Tree (RootedNode N))
a_node_each f xs = map (λ x. node (of_handle (f x))) xs

-- the place of the argument or input field of a number
abbrev pub place_in : InputOwner → ℕ → spec.InputPlace
place_in (owner.Field i j) k = spec.of_field i j k
place_in (owner.InputObject i) k = spec.of_input_object i k
place_in (owner.Directive i) k = spec.of_directive i k
