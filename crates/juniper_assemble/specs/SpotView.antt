-- How what stands at a place of an answer is seen (7.1.2).
use Rattle.std.specs.Prelude.{List, map}
use Rattle.graphql_spec.specs.Errors.{Place}
use Rattle.graphql_spec.specs.Resolvers.{Error, Tree, World}
use Rattle.graphql_spec.specs.Shown.{Shown}
use Rattle.graphql_spec.specs.Types.{TypeRef}
use Rattle.graphql_spec.specs.Skeletons as plain
use Rattle.juniper_conversions.specs.PathView.{path_place}
use Rattle.juniper_assemble.specs.SkeletonView.{view_fault, view_skeleton}
use Rattle.juniper_assemble.specs.Apart.{IsApart}
use Rattle.juniper_assemble.specs.declared.apart.Fault.{Fault}
use Rattle.juniper_assemble.specs.declared.skeleton.Skeleton.{Skeleton}
use Rattle.juniper_assemble.specs.declared.spot.Spot.{Spot}

-- what stands there is seen by `see`
abbrev pub view_spot : {T A : Type 0} → (T → A) → Spot T → plain.Spot A
view_spot see x = record { place = path_place x.path.value; what = see x.what }

-- nodes, each at its place
abbrev pub view_nodes : {N : Type 0} → List (Spot N) → List (plain.Spot N)
view_nodes ns = map (view_spot (λ n. n)) ns

-- the errors of faults, each at its place
abbrev pub view_faults : List (Spot Fault) → List (plain.Spot Error)
view_faults fs = map (view_spot view_fault) fs

-- an answer was taken apart at a place: its skeleton, with its nodes and faults put behind those that were there
abbrev pub IsTakenApart : {N S : Type 0} → (S → Shown) → World N → Place → TypeRef → Tree N → Skeleton S → List (Spot N) → List (Spot N) →
    List (Spot Fault) → List (Spot Fault) → Type 0
IsTakenApart shown W here t a s ns more fs further = IsApart W here t a (view_skeleton shown s) (view_nodes ns) (view_nodes more) (view_faults fs)
    (view_faults further)
