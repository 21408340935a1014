-- Skeletons beside what they stand for, level by level.
use Rattle.std.proofs.Common.{◌≡◌, Bool, List, [], ◌∷◌, ◌++◌, map, Vec, Global, rules, ap, ◌∙◌}
use Rattle.std.proofs.lemmas.List.{map-append}
use Rattle.graphql_spec.specs.Errors.{Place}
use Rattle.graphql_spec.specs.Shown.{Shown}
use Rattle.graphql_spec.specs.Skeletons as plain
use Rattle.juniper_assemble.specs.SkeletonView.{skeletons_of, view_skeleton}
use Rattle.juniper_conversions.specs.PathView.{path_place}
use Rattle.juniper_assemble.specs.SpotView.{view_spot}
use Rattle.juniper_assemble.specs.declared.spot.Spot.{Spot}
use Rattle.juniper_assemble.specs.declared.skeleton.Skeleton.{Skeleton, Absent, Filled, Several, Hole, the_lemmas as skeleton_lemmas}

module _ {S : Type 0} (shown : S → Shown) where
  pub skeleton-Absent : view_skeleton shown Absent ≡ plain.absent
  skeleton-Absent = search (rules, skeleton_lemmas)

  pub skeleton-Filled : (s : S) → view_skeleton shown (Filled s) ≡ plain.filled (shown s)
  skeleton-Filled s = search (rules, skeleton_lemmas)

  pub skeleton-Several : (r : Bool) (v : Vec (Skeleton S) Global) →
      view_skeleton shown (Several r v) ≡ plain.several r (skeletons_of (map (view_skeleton shown) v.items))
  skeleton-Several r v = search (rules, skeleton_lemmas)

  pub skeleton-Hole : view_skeleton shown Hole ≡ plain.hole
  skeleton-Hole = search (rules, skeleton_lemmas)

-- one more at its place
pub spots-push : {T A : Type 0} (see : T → A) (old new : List (Spot T)) (x : Spot T) (at : Place) → new ≡ old ++ x ∷ [] → path_place x.path.value ≡ at →
    map (view_spot see) new ≡ map (view_spot see) old ++ record { place = at; what = see x.what } ∷ []
spots-push see old new x at e place =
    ap (map (view_spot see)) e ∙ (map-append (view_spot see) old (x ∷ [])
    ∙ ap (λ p. map (view_spot see) old ++ record { place = p; what = see x.what } ∷ []) place)
