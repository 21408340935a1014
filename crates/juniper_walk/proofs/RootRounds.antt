-- The rounds of a mutation's root groups: the group of a number has the next response key, and all of its occurrences (6.2.2, 6.3.2).
use Rattle.std.proofs.Common.{◌≡◌, ℕ, suc, ◌+◌, ◌-◌, ◌≤◌, ◌<◌, Bool, List, [], ◌∷◌, ◌++◌, length, take, refl, ap, ◌∙◌, arith}
use Rattle.graphql_spec.specs.Shown.{Shown, Name}
use Rattle.graphql_spec.specs.Documents.{Head}
use Rattle.graphql_spec.specs.Selections.{Occurrence, keys, with_key}
use Rattle.juniper_lookahead.specs.Collected.{view_all}
use Rattle.juniper_lookahead.specs.declared.collecting.Collector.{Collector}
use Rattle.juniper_walk.specs.declared.plan.GroupRange.{GroupRange}
use Rattle.juniper_walk.specs.declared.plan.Plan.{Plan}
use Rattle.juniper_walk.specs.PlanWalks.{HasFirst, IsGroupOf}
use Rattle.juniper_walk.specs.Plans.{IsAskedAt, IsStanding, IsStep, StandsFor, fields_at, key_at}
use Rattle.juniper_walk.proofs.Keys.{key-has-one}
use Rattle.juniper_walk.proofs.Rounds.{take-next, take-past}
use Rattle.juniper_walk.proofs.Standing.{IsPlaced, asked-at, longer, placed, range-length, stands-still}

module _ {S P Q : Type 0} (shown : S → Shown) (c : Collector S P) (asks : Name → Head → Q → Type 0) (possible : Name → Name → Bool) (p q : Plan S Q)
    (T : Name) (r : GroupRange) (os : List Occurrence)
    (standing : IsStanding shown c asks possible p) (stands : StandsFor shown c asks T p r os) (step : IsStep shown c asks possible p q) (i : ℕ)
    (low : r.first.0 ≤ i) where
  module _ (high : i < r.end.0) where
    still : StandsFor shown c asks T q r os
    still = stands-still shown c asks T p q r os standing.within standing.asked step.grown stands

    at-round : IsPlaced shown c q i (i - r.first.0) os
    at-round = placed shown c asks T q r os i (i - r.first.0) still low high refl

    pub round-bound : i < length q.groups.items
    round-bound = let long = longer p q step.grown in omega (arith, long, high, stands.inside)

    pub round-split : (rest : List Name) × (keys os ≡ take (i - r.first.0) (keys os) ++ key_at q i ∷ rest)
    round-split = (at-round.rest, at-round.split)

    pub round-fields : view_all shown c (fields_at q i) ≡ with_key (key_at q i) os
    round-fields = at-round.fields

    pub round-group : IsGroupOf (key_at q i) os (view_all shown c (fields_at q i))
    round-group = let (first, others, some) = key-has-one os (take (i - r.first.0) (keys os)) at-round.rest (key_at q i) at-round.split in
        record { first = first; others = others; some = at-round.fields ∙ some; whole = at-round.fields }

    pub round-asked : IsAskedAt asks T q i (view_all shown c (fields_at q i))
    round-asked = asked-at shown c asks T q r os i (i - r.first.0) still low high refl step.standing.asked

    pub round-first : HasFirst (view_all shown c (fields_at q i))
    round-first = let g = round-group in record { first = g.first; others = g.others; some = g.some }

    pub round-next : take (i + 1 - r.first.0) (keys os) ≡ take (i - r.first.0) (keys os) ++ key_at q i ∷ []
    round-next = ap (λ x. take x (keys os)) {x = i + 1 - r.first.0} {y = suc (i - r.first.0)} (omega (arith, low))
        ∙ take-next (keys os) (i - r.first.0) (key_at q i) at-round.rest at-round.split

  pub rounds-end : r.end.0 ≤ i → take (i - r.first.0) (keys os) ≡ keys os
  rounds-end past = let n = range-length shown c asks T p r os stands in take-past (keys os) (i - r.first.0) (omega (arith, n, past))
