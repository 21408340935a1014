-- How look-ahead's selections are seen (this project's own).
use Rattle.std.specs.Prelude.{List, map, Option, Some, None}
use Rattle.graphql_spec.specs.Shown.{Name}
use Rattle.graphql_spec.specs.Selections.{Child}
use Rattle.std.specs.declared.cmp.PartialEq.{Ghosts as Equality}
use Rattle.std.specs.declared.fmt.Debug.{Ghosts as Shows}
use Rattle.juniper_syntax.specs.declared.scalar.ScalarValue.{Ghosts as Scalars}
use Rattle.juniper_lookahead.specs.Expansion.{child_at}
use Rattle.juniper_lookahead.specs.declared.selection.Applies.{Applies}
use Rattle.juniper_lookahead.specs.declared.selection.Applies.TheVariants.{All, OnlyType}
use Rattle.juniper_lookahead.specs.declared.selection.LookAheadSelection.{LookAheadSelection}

-- the type that a child is selected for; none stands for all
abbrev pub view_applies : Applies → Option Name
view_applies All = None
view_applies (OnlyType t) = Some t.now

module _ {S : Type 0} {scalar : Scalars S} {equality : Equality S} {shows : Shows S} where
  -- a selection, with what is below it
  unfoldable pub view_selection : LookAheadSelection S scalar equality shows → Child
  view_selection c = child_at scalar.shown c.variables.now c.fragments.now c.field.now (view_applies c.applies_for)

  -- selections in order
  abbrev pub view_all : List (LookAheadSelection S scalar equality shows) → List Child
  view_all cs = map view_selection cs
