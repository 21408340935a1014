-- The children that look-ahead shows, and how they are sought (this project's own).
use Rattle.std.specs.Prelude.{Bool, true, List, filter, find, map, Option, Some, None}
use Rattle.std.specs.Str.{bytes_eq}
use Rattle.graphql_spec.specs.Shown.{Name}
use Rattle.graphql_spec.specs.Documents.{response_key}
use Rattle.graphql_spec.specs.Selections.{Child, children}
use Rattle.std.specs.declared.cmp.PartialEq.{Ghosts as Equality}
use Rattle.std.specs.declared.fmt.Debug.{Ghosts as Shows}
use Rattle.juniper_syntax.specs.declared.scalar.ScalarValue.{Ghosts as Scalars}
use Rattle.juniper_lookahead.specs.Expansion.{unplaced}
use Rattle.juniper_lookahead.specs.SelectionView.{view_all}
use Rattle.juniper_lookahead.specs.declared.children.LookAheadChildren.{LookAheadChildren}

-- the children of a selection, but for where they are written
unfoldable pub children_of : Child → List Child
children_of c = map unplaced (children None c.below)

-- none stands for all types
unfoldable pub is_all_or : Name → Option Name → Bool
is_all_or t None = true
is_all_or t (Some n) = bytes_eq n t

-- a child applies for the type of a name where it applies for all, or for that name
unfoldable pub applies_to : Name → Child → Bool
applies_to t c = is_all_or t c.applies_for

-- the children that apply for the type of a name
unfoldable pub children_for : Name → Child → List Child
children_for t c = filter (applies_to t) (children_of c)

-- the name under which a child is answered (2.7)
unfoldable pub name_of : Child → Name
name_of c = response_key c.head

-- the first child of a response name
unfoldable pub child_named : Name → List Child → Option Child
child_named k cs = find (λ c. bytes_eq (name_of c) k) cs

module _ {S : Type 0} {scalar : Scalars S} {equality : Equality S} {shows : Shows S} where
  -- children in order
  unfoldable pub view_children : LookAheadChildren S scalar equality shows → List Child
  view_children c = view_all c.items.items
