-- What a walk makes of a reply, for one occurrence and for all of a response key (6.4.3).
use Rattle.std.specs.Prelude.{◌≡◌, true, List, [], ◌∷◌, map}
use Rattle.graphql_spec.specs.Shown.{Shown}
use Rattle.graphql_spec.specs.Values.{Value}
use Rattle.graphql_spec.specs.Types.{TypeRef, innermost}
use Rattle.graphql_spec.specs.Errors.{Place, Listed}
use Rattle.graphql_spec.specs.ExactAnswers.{whole}
use Rattle.graphql_spec.specs.GroupLaws.{IsCompleted, IsCompletedFor}
use Rattle.graphql_spec.specs.Laws.{Merges}
use Rattle.graphql_spec.specs.Resolvers.{Error, Reply, World}
use Rattle.graphql_spec.specs.Selections.{Occurrence, all_below}
use Rattle.juniper_assemble.specs.Keyed.{is_keyed}
use Rattle.juniper_assemble.specs.SkeletonView.{view_skeleton}
use Rattle.juniper_assemble.specs.SpotView.{view_nodes}
use Rattle.juniper_conversions.specs.ErrorView.{view_listed}
use Rattle.juniper_syntax.specs.ValueView.{view_value}
use Rattle.juniper_lookahead.specs.Collected.{view_all, view_collected}
use Rattle.juniper_lookahead.specs.declared.collecting.Collector.{Collector}
use Rattle.graphql_spec.specs.Skeletons.{Spot, Skeleton}
use Rattle.juniper_walk.specs.Completing.{IsParted, view_errors}
use Rattle.juniper_walk.specs.declared.parting.Parted.{Parted}
use Rattle.juniper_walk.specs.declared.walked.Walked.{Walked}
use Rattle.juniper_twin.specs.declared.completing.Group.{Group}

-- the fields of a group, with what they select, expanded
abbrev pub view_group : {S P : Type 0} → (S → Shown) → Collector S P → Group S → List Occurrence
view_group shown c g = view_collected shown c g.first.now ∷ view_all shown c g.others.now

module _ {N : Type 0} (W : World N) where
  -- ## Only private clauses cite what follows

  module _ (s : Skeleton) (ns : List (Spot N)) (errors : List (Spot Error)) where
    -- whatever reply was taken apart, it was completed for one occurrence; the keys of its objects differ
    pub record IsOne (o : Occurrence) (v : Value) (es : List Listed) : Type 0 where
      pub completed : (here : Place) (t : TypeRef) (r : Reply N) → IsParted W here t r s ns errors →
          IsCompleted whole W here [] t r (o.head.span.start ∷ []) o.below v es
      pub keyed : is_keyed v ≡ true

    -- so it was for several, the first of all those that merge
    pub record AreSome (all os : List Occurrence) (v : Value) (es : List Listed) : Type 0 where
      pub completed : (here : Place) (t : TypeRef) (r : Reply N) → IsParted W here t r s ns errors → Merges W (innermost t) (all_below all) →
          IsCompletedFor whole W here [] t r os v es
      pub keyed : is_keyed v ≡ true

  module _ {S : Type 0} (shown : S → Shown) (p : Parted N S) where
    -- the same of a reply as it is kept
    abbrev pub IsOneOf : Occurrence → Walked S → Type 0
    IsOneOf o w = IsOne (view_skeleton shown p.skeleton) (view_nodes p.nodes.items) (view_errors shown p.errors.items) o (view_value shown w.value)
        (map (view_listed shown) w.errors.items)

    abbrev pub AreAllOf : List Occurrence → Walked S → Type 0
    AreAllOf os w = AreSome (view_skeleton shown p.skeleton) (view_nodes p.nodes.items) (view_errors shown p.errors.items) os os (view_value shown w.value)
        (map (view_listed shown) w.errors.items)
