use Rattle.std.proofs.Common.{◌≡◌, map, take}
use Rattle.graphql_spec.specs.ExactAnswers.{whole}
use Rattle.juniper_walk.specs.Completing.{view_errors}
use Rattle.graphql_spec.specs.Skeletons.{listed_spots}
use Rattle.juniper_conversions.specs.ErrorView.{view_listed}
use Rattle.juniper_syntax.specs.Positions.{view_position}
use Rattle.juniper_walk.proofs.parting.list_errors.Given as goal

abbrev pub invariant-loop-error : goal.invariant-loop-error
invariant-loop-error g l =
    let shown = g.S.ScalarValue.shown in
    map (view_listed shown) l.made.items ≡ listed_spots whole (view_position l.start) (view_errors shown (take l.error-index l.errors))
