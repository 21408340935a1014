-- The objects of nodes fill the holes of an answer (6.4.3, 6.4.4); only private clauses cite this.
use Rattle.std.specs.Prelude.{◌≡◌, ◌+◌, ℕ, List, ◌++◌, drop, map, take}
use Rattle.graphql_spec.specs.Shown.{Shown}
use Rattle.graphql_spec.specs.CompletionLaws.{all_listed}
use Rattle.graphql_spec.specs.Skeletons.{Skeleton, Skeletons, absent, filled, several, hole, no_skeletons, skeleton}
use Rattle.juniper_conversions.specs.ErrorView.{view_listed}
use Rattle.juniper_conversions.specs.declared.execution_error.ExecutionError.{ExecutionError}
use Rattle.juniper_walk.specs.declared.walked.Walked.{Walked}

unfoldable mutual
  -- how many holes a skeleton has
  pub holes_of : Skeleton → ℕ
  holes_of absent = 0
  holes_of (filled x) = 0
  holes_of (several r ss) = all_holes ss
  holes_of hole = 1

  pub all_holes : Skeletons → ℕ
  all_holes no_skeletons = 0
  all_holes (skeleton s ss) = holes_of s + all_holes ss

-- so many objects were taken, and what was listed in them was put behind these errors
pub record AreTaken {S : Type 0} (shown : S → Shown) (n : ℕ) (ws left : List (Walked S)) (errors more : List (ExecutionError S)) : Type 0 where
  pub left_over : left ≡ drop n ws
  pub listed : map (view_listed shown) more
      ≡ map (view_listed shown) errors ++ all_listed (take n (map (λ w. map (view_listed shown) w.errors.items) ws))
