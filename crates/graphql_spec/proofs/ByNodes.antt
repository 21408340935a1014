-- Completed by nodes.
use Rattle.std.proofs.Common.{◌≡◌, ◌&&◌, List, [], ◌∷◌, ◌++◌, map, sym, ap, ◌∙◌, subst, arith}
use Rattle.graphql_spec.specs.Shown.{Name}
use Rattle.graphql_spec.specs.Values.{Value, is_null}
use Rattle.graphql_spec.specs.Types.{required}
use Rattle.graphql_spec.specs.Errors.{Place, Listed}
use Rattle.graphql_spec.specs.Selections.{Forest, depth, occurrences, all_below}
use Rattle.graphql_spec.specs.Resolvers.{World}
use Rattle.graphql_spec.specs.Execution.{grouped, data_of, value_of, finish}
use Rattle.graphql_spec.specs.Failures.{Failure, starts_of, failures, failures_of, reply_faults}
use Rattle.graphql_spec.specs.Nulls.{nulls, nulls_of, reply_standing}
use Rattle.graphql_spec.specs.Walk.{Met}
use Rattle.graphql_spec.specs.Skeletons.{Stop, reply_stops, listed_apart}
use Rattle.graphql_spec.specs.CompletionLaws.{all_listed, AreObjectsOf}
use Rattle.graphql_spec.proofs.Filling.{reply-fills}
use Rattle.graphql_spec.proofs.CompletedValues.{reply-met}
use Rattle.graphql_spec.proofs.Telling.{reply-objects, listed-reply, spot_of, spots-reply}
use Rattle.graphql_spec.specs.GroupLaws.{for_picked, first_start}
use Rattle.graphql_spec.proofs.Picked.{once-completed}
use Rattle.graphql_spec.specs.NodeLaws.{AreWalkedOnce, OccurrenceByNodes, GroupByNodes, GroupBySpots}

pub occurrence-by-nodes : {N : Type 0} (W : World N) → OccurrenceByNodes W
unfolding data_of failures_of nulls_of value_of
occurrence-by-nodes {N} W tell here above t r o vs ess w v e more listed =
    let d = depth o.below in
    let objects : Name → N → Value = λ U n. grouped W d U n (occurrences W.possible U o.below) in
    let at : Place → Place → Name → N → List Failure = λ place to U n. failures W d place to U n (occurrences W.possible U o.below) in
    let st : Place → Name → N → List Place = λ place U n. nulls W d place U n (occurrences W.possible U o.below) in
    let are : AreObjectsOf tell W objects at st (reply_stops W here above t r) vs ess =
    reply-objects tell W d o.below (omega arith) here above t r vs ess w in
    let value : v ≡ finish W objects t r = e ∙ reply-fills tell W objects at st here above t r vs ess are in
    let met = reply-met tell W objects at st o.head.span.start here above t r vs ess are in
    let same : listed_apart W tell here o.head.span.start t r ++ all_listed ess ≡ more =
    ap (λ z. z ++ all_listed ess) (listed-reply tell W o.head.span.start here t r) ∙ sym listed in
    record {
      value = value;
      errors = subst (λ z. Met tell (is_null z && required t) more (reply_faults W at here (o.head.span.start ∷ []) above t r) above
          (reply_standing W objects st here t r)) (sym value)
          (subst (λ z. Met tell (is_null (finish W objects t r) && required t) z (reply_faults W at here (o.head.span.start ∷ []) above t r) above
          (reply_standing W objects st here t r)) same met);
    }

pub group-by-nodes : {N : Type 0} (W : World N) → GroupByNodes W
unfolding value_of starts_of first_start
group-by-nodes {N} W tell here above t r o rest vs ess are v e more listed =
    let objects : Name → N → Value = λ U n. data_of W U n (all_below (o ∷ rest)) in
    let at : Place → Place → Name → N → List Failure = λ place to U n. map (for_picked first_start) (failures_of W place to U n (all_below (o ∷ rest))) in
    let st : Place → Name → N → List Place = λ place U n. nulls_of W place U n (all_below (o ∷ rest)) in
    let value : v ≡ finish W objects t r = e ∙ reply-fills tell W objects at st here above t r vs ess are in
    let met = reply-met tell W objects at st o.head.span.start here above t r vs ess are in
    once-completed tell first_start W here above t r (o ∷ rest) v more value
    (subst (λ z. Met tell (is_null z && required t) more (reply_faults W at here (o.head.span.start ∷ []) above t r) above
    (reply_standing W objects st here t r)) (sym value)
    (subst (λ z. Met tell (is_null (finish W objects t r) && required t) z (reply_faults W at here (o.head.span.start ∷ []) above t r) above
    (reply_standing W objects st here t r)) (sym listed) met))

module _ (tell : Place → Place) {N : Type 0} (W : World N) (s : Forest) where
  once-are : (xs : List (Stop N)) (vs : List Value) (ess : List (List Listed)) → AreWalkedOnce tell first_start W s (map spot_of xs) vs ess →
      AreObjectsOf tell W (λ U n. data_of W U n s) (λ place to U n. map (for_picked first_start) (failures_of W place to U n s))
      (λ place U n. nulls_of W place U n s) xs vs ess
  once-are [] [] [] w = tt
  once-are [] [] (es ∷ ess) w = absurd w
  once-are [] (v ∷ vs) [] w = absurd w
  once-are [] (v ∷ vs) (es ∷ ess) w = absurd w
  once-are (x ∷ xs) [] [] w = absurd w
  once-are (x ∷ xs) [] (es ∷ ess) w = absurd w
  once-are (x ∷ xs) (v ∷ vs) [] w = absurd w
  once-are (x ∷ xs) (v ∷ vs) (es ∷ ess) (one, w) = (record { value = one.value; errors = one.errors x.lands }, once-are xs vs ess w)

pub group-by-spots : {N : Type 0} (W : World N) → GroupBySpots W
group-by-spots {N} W tell here above t r o rest vs ess walked v e more listed =
    let s = all_below (o ∷ rest) in
    group-by-nodes W tell here above t r o rest vs ess
    (once-are tell W s (reply_stops W here above t r) vs ess
    (subst (λ z. AreWalkedOnce tell first_start W s z vs ess) (sym (spots-reply W here above t r)) walked))
    v e more (listed ∙ ap (λ z. z ++ all_listed ess) (sym (listed-reply tell W o.head.span.start here t r)))
