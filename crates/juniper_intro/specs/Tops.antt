-- The root among the root's nodes.
use Rattle.std.specs.Prelude.{Bool, true, false}
use Rattle.juniper_intro.specs.declared.node.RootedNode.{RootedNode}
use Rattle.juniper_intro.specs.declared.node.RootedNode.TheVariants as node

abbrev pub is_top : {N : Type 0} → RootedNode N → Bool
is_top node.Root = true
is_top (node.User n) = false
is_top (node.Introspected h) = false
