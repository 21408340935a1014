-- What iterators over children have left (this project's own).
use Rattle.std.specs.Prelude.{List, map}
use Rattle.std.specs.Slice.Iter.{iter_rest}
use Rattle.std.specs.Vec.Iter.{into_iter_items}
use Rattle.graphql_spec.specs.Shown.{Name}
use Rattle.graphql_spec.specs.Selections.{Child}
use Rattle.std.specs.declared.cmp.PartialEq.{Ghosts as Equality}
use Rattle.std.specs.declared.fmt.Debug.{Ghosts as Shows}
use Rattle.juniper_syntax.specs.declared.scalar.ScalarValue.{Ghosts as Scalars}
use Rattle.juniper_lookahead.specs.ChildrenView.{name_of}
use Rattle.juniper_lookahead.specs.SelectionView.{view_all, view_selection}
use Rattle.juniper_lookahead.specs.declared.going_over.ChildrenIter.{ChildrenIter}
use Rattle.juniper_lookahead.specs.declared.going_over.ChildrenIntoIter.{ChildrenIntoIter}
use Rattle.juniper_lookahead.specs.declared.going_over.NamesIter.{NamesIter}

module _ {S : Type 0} {scalar : Scalars S} {equality : Equality S} {shows : Shows S} where
  -- the children that are still to come
  abbrev pub children_left : ChildrenIter S scalar equality shows → List Child
  children_left s = view_all (iter_rest s.left)

  -- the same, where they are handed over
  abbrev pub handed_left : ChildrenIntoIter S scalar equality shows → List Child
  handed_left s = view_all (into_iter_items s.left)

  -- the response names that are still to come
  abbrev pub names_left : NamesIter S scalar equality shows → List Name
  names_left s = map (λ c. name_of (view_selection c)) (iter_rest s.left)
