-- What a walk makes of a reply (6.4.3).
use Rattle.std.specs.Prelude.{◌≡◌, [], IfOk, List, map, Result, Ok, Err, string_bytes}
use Rattle.graphql_spec.specs.Shown.{Shown}
use Rattle.graphql_spec.specs.Types.{TypeRef}
use Rattle.graphql_spec.specs.Errors.{Place}
use Rattle.graphql_spec.specs.ExactAnswers.{whole}
use Rattle.graphql_spec.specs.GroupLaws.{GroupCompleted}
use Rattle.graphql_spec.specs.Positions.{Position}
use Rattle.graphql_spec.specs.Resolvers.{Error, Reply, World}
use Rattle.graphql_spec.specs.Selections.{Occurrence}
use Rattle.juniper_assemble.specs.SpotView.{view_spot}
use Rattle.juniper_assemble.specs.declared.spot.Spot.{Spot as CodeSpot}
use Rattle.graphql_spec.specs.Skeletons.{Spot, Skeleton, reply_skeleton, reply_node_spots, reply_error_spots}
use Rattle.juniper_conversions.specs.ErrorView.{view_error, view_listed}
use Rattle.juniper_conversions.specs.declared.field_error.FieldError.{FieldError}
use Rattle.juniper_conversions.specs.declared.field_error.ResolveError.{ResolveError}
use Rattle.juniper_conversions.specs.declared.field_error.ResolveError.TheVariants.{Field, Memory}
use Rattle.juniper_values.specs.ResolvedView.{Answers}
use Rattle.juniper_syntax.specs.TypeView.{view_type}
use Rattle.juniper_syntax.specs.ValueView.{view_value}
use Rattle.juniper_walk.specs.declared.asking.Asked.{Asked}
use Rattle.juniper_walk.specs.declared.walked.Walked.{Walked}

-- an answer was told: memory was not wanting
abbrev pub IsTold : {A S : Type 0} → Result A (ResolveError S) → Type 0
IsTold (Ok r) = Unit {0}
IsTold (Err (Field e)) = Unit {0}
IsTold (Err Memory) = ⊥

-- field errors, each at its place
abbrev pub view_errors : {S : Type 0} → (S → Shown) → List (CodeSpot (FieldError S)) → List (Spot Error)
view_errors shown es = map (view_spot (view_error shown)) es

module _ {N : Type 0} (W : World N) where
  -- a reply at a type and a place, taken apart: what is left of it, its nodes, and the errors of what fails apart from them
  pub record IsParted (here : Place) (t : TypeRef) (r : Reply N) (s : Skeleton) (ns : List (Spot N)) (es : List (Spot Error)) : Type 0 where
    pub skeleton : s ≡ reply_skeleton W t r
    pub nodes : ns ≡ reply_node_spots W here t r
    pub errors : es ≡ reply_error_spots W here t r

-- whatever reply was asked for, the answer is what it is completed to for these occurrences of one response key, each failure listed where
-- some of them start
abbrev pub CompletesAsked : {N S E : Type 0} → (S → Shown) → (List Position → List Position) → World N → Place → List Occurrence → Asked N S →
    Result (Walked S) E → Type 0
CompletesAsked {N = N} shown starts W at os asked result = (reply : Reply N) → Answers shown asked.answer reply →
    IfOk result (λ w. GroupCompleted whole starts W at [] (view_type (λ n. string_bytes n) asked.declared.now) reply os (view_value shown w.value)
    (map (view_listed shown) w.errors.items))
