-- How the code's skeletons and faults are seen (6.4.3).
use Rattle.std.specs.Prelude.{◌≡◌, List, [], ◌∷◌}
use Rattle.graphql_spec.specs.Shown.{Shown}
use Rattle.graphql_spec.specs.Values.{Value, Values, no_items, item}
use Rattle.graphql_spec.specs.Errors.{wrong_shape, null_at_non_null}
use Rattle.graphql_spec.specs.Resolvers.{Error}
use Rattle.graphql_spec.specs.Skeletons as plain
use Rattle.graphql_spec.specs.Skeletons.{Skeletons, no_skeletons, Filled, AllFilled, fill_all}
use Rattle.juniper_assemble.specs.declared.skeleton.Skeleton.{Skeleton, fold-Skeleton}
use Rattle.juniper_assemble.specs.declared.skeleton.Skeleton.TheOpen.{Skeleton-F}
use Rattle.juniper_assemble.specs.declared.apart.Fault.{Fault}
use Rattle.juniper_assemble.specs.declared.apart.Fault.TheVariants as fault

abbrev pub skeletons_of : List plain.Skeleton → Skeletons
skeletons_of [] = no_skeletons
skeletons_of (s ∷ ss) = plain.skeleton s (skeletons_of ss)

abbrev pub skeleton_step : {S : Type 0} → (S → Shown) → Skeleton-F S plain.Skeleton → plain.Skeleton
skeleton_step shown Skeleton-F.Absent = plain.absent
skeleton_step shown (Skeleton-F.Filled s) = plain.filled (shown s)
skeleton_step shown (Skeleton-F.Several r v) = plain.several r (skeletons_of v.items)
skeleton_step shown Skeleton-F.Hole = plain.hole

abbrev pub view_skeleton : {S : Type 0} → (S → Shown) → Skeleton S → plain.Skeleton
view_skeleton {S} shown = fold-Skeleton S plain.Skeleton (skeleton_step shown)

abbrev pub view_fault : Fault → Error
view_fault fault.WrongShape = wrong_shape
view_fault fault.NullAtNonNull = null_at_non_null

-- a skeleton was filled: its value, and the values that are left
pub record IsFilledFrom (f : Filled) (v : Value) (left : List Value) : Type 0 where
  pub value : v ≡ f.value
  pub left_over : left ≡ f.left

-- ## Only private clauses cite what follows

-- one list of items after another
abbrev pub append_values : Values → Values → Values
append_values no_items vs = vs
append_values (item u us) vs = item u (append_values us vs)

-- what is made of the items of a list before those that are left
pub record AreFilling (made : Values) (xs : Skeletons) (vs : List Value) (all : AllFilled) : Type 0 where
  pub values : append_values made (fill_all xs vs).values ≡ all.values
  pub left_over : (fill_all xs vs).left ≡ all.left
