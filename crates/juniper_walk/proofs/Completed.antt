-- A reply that was taken apart is completed for all fields of a group (6.4.3).
use Rattle.std.proofs.Common.{◌≡◌, List, ◌++◌, ap, ◌∙◌, subst}
use Rattle.graphql_spec.specs.Values.{Value}
use Rattle.graphql_spec.specs.Types.{TypeRef}
use Rattle.graphql_spec.specs.Errors.{Place, Listed}
use Rattle.graphql_spec.specs.ExactAnswers.{whole}
use Rattle.graphql_spec.specs.GroupLaws.{GroupCompleted, first_start}
use Rattle.graphql_spec.specs.Resolvers.{Error, Reply, World}
use Rattle.graphql_spec.specs.Selections.{Occurrence, all_below}
use Rattle.juniper_assemble.specs.SkeletonView.{IsFilledFrom}
use Rattle.graphql_spec.specs.Skeletons.{Spot, Skeleton, fill, listed_spots, reply_error_spots}
use Rattle.graphql_spec.specs.NodeLaws.{AreWalkedOnce}
use Rattle.juniper_walk.specs.Completing.{IsParted}
use Rattle.juniper_walk.specs.PlanWalks.{AreObjectsWalked, HasFirst}
use Rattle.juniper_walk.proofs.Turns.{group-completed}

module _ {N : Type 0} (W : World N) (at : Place) (t : TypeRef) (r : Reply N) (os : List Occurrence) (has : HasFirst os) (s : Skeleton)
    (ns ms : List (Spot N)) (errors : List (Spot Error)) (parted : IsParted W at t r s ns errors) (same : ms ≡ ns) (vs ws left : List Value)
    (below : List Listed) (nodes : AreObjectsWalked W (all_below os) ms vs below) (handed : ws ≡ vs) (v : Value) (filled : IsFilledFrom (fill s ws) v left)
    (own more : List Listed) (listed : own ≡ listed_spots whole has.first.head.span.start errors) (joined : more ≡ own ++ below) where
  pub completed-at : (lands : Place) → GroupCompleted whole first_start W at lands t r os v more
  completed-at lands =
      group-completed W at lands t r os has.first has.others has.some vs nodes.parts
      (subst (λ x. AreWalkedOnce whole first_start W (all_below os) x vs nodes.parts) (same ∙ parted.nodes) nodes.walked) v
      (filled.value ∙ (ap (λ l. (fill s l).value) handed ∙ ap (λ x. (fill x vs).value) parted.skeleton)) more
      (joined ∙ (ap (λ l. l ++ below) (listed ∙ ap (listed_spots whole has.first.head.span.start) parted.errors)
      ∙ ap (λ l. listed_spots whole has.first.head.span.start (reply_error_spots W at t r) ++ l) nodes.listed))
