use Rattle.std.proofs.Common.{◌≡◌, drop}
use Rattle.juniper_lookahead.specs.SelectionView.{view_all}
use Rattle.juniper_lookahead.specs.ChildrenView.{child_named, view_children}
use Rattle.juniper_lookahead.proofs.children.LookAheadChildren.select.Given as goal

-- what is left decides
abbrev pub invariant-loop-child : goal.invariant-loop-child
invariant-loop-child g l = child_named l.name (view_all (drop l.child-index l.child-items)) ≡ child_named l.name (view_children l.self)
