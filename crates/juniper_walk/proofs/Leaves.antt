-- Scalars that their types take are their own answers (6.4.3).
use Rattle.std.proofs.Common.{◌≡◌, Bool, false, List, [], ◌∷◌, ◌++◌, Result, refl, sym, ap, ◌∙◌}
use Rattle.std.proofs.lemmas.List.{append-nil}
use Rattle.graphql_spec.specs.Shown.{Name, Shown}
use Rattle.graphql_spec.specs.Types.{TypeRef, required}
use Rattle.graphql_spec.specs.Errors.{Place, Listed, key}
use Rattle.graphql_spec.specs.ExactAnswers.{whole}
use Rattle.graphql_spec.specs.Execution.{reply_of, type_of}
use Rattle.graphql_spec.specs.Positions.{Position}
use Rattle.graphql_spec.specs.Resolvers.{World, Reply, answered, leaf}
use Rattle.graphql_spec.specs.Selections.{Occurrence}
use Rattle.graphql_spec.specs.Values.{Entries, put, scalar, is_null}
use Rattle.graphql_spec.specs.Skeletons.{filled, fill, listed_spots}
use Rattle.juniper_conversions.specs.declared.field_error.ResolveError.{ResolveError}
use Rattle.juniper_values.specs.ResolvedView.{Answers}
use Rattle.juniper_values.specs.declared.resolved.Resolved.{Resolved, Scalar}
use Rattle.juniper_values.proofs.Resolutions.{view-Scalar}
use Rattle.juniper_assemble.proofs.Parting.{scalar-taken}
use Rattle.juniper_walk.specs.Completing.{IsParted}
use Rattle.juniper_walk.proofs.Replies.{parted-answer, reply-answers}
use Rattle.juniper_walk.specs.Leaves.{IsLeaf}
use Rattle.juniper_walk.specs.PlanWalks.{IsGroupOf, IsPrepared, IsPut}
use Rattle.juniper_walk.proofs.Whole.{prepared-group}

none-listed : (start : Position) → [] ≡ listed_spots whole start []
unfolding listed_spots
none-listed start = refl

module _ {N S : Type 0} (W : World N) (shown : S → Shown) (t : TypeRef) (a : Result (Resolved N S) (ResolveError S)) (x : S)
    (given : IsLeaf W shown t a x) where
  leaf-parted : (place : Place) (r : Reply N) → Answers shown a r → IsParted W place t r (filled (shown x)) [] []
  leaf-parted place r answers =
      parted-answer W place t r (filled (shown x)) [] [] [] [] (leaf (shown x))
      (reply-answers shown a r (Scalar x) given.is answers ∙ ap answered (view-Scalar shown x)) refl refl
      (scalar-taken W place t (shown x) (filled (shown x)) [] [] given.fits.unlisted given.fits.accepted refl) [] refl

  -- the occurrences of a response key answer a scalar that fits
  pub leaf-prepared : (at : Place) (T : Name) (m : N) (k : Name) (all os : List Occurrence) (key_is : Name) → IsGroupOf k all os → key_is ≡ k →
      t ≡ type_of W T os → Answers shown a (reply_of W T m os) →
      IsPrepared W at T m k os key_is (required (type_of W T os)) (filled (shown x)) [] []
  leaf-prepared at T m k all os key_is group same typed answers =
      prepared-group W at T m k all os key_is (required (type_of W T os)) (filled (shown x)) [] [] group (at ++ key k ∷ []) t [] same refl
      (ap required (sym typed)) typed (leaf-parted (at ++ key k ∷ []) (reply_of W T m os) answers) (none-listed group.first.head.span.start)

-- it is put at its key, and nothing rises
pub leaf-put : (k : Name) (r : Bool) (x : Shown) (es made : Entries) (errors more : List Listed) → made ≡ put k (scalar x) es → more ≡ errors →
    IsPut k r (filled x) [] [] false es made errors more
unfolding fill is_null
leaf-put k r x es made errors more is same = record { lists = same ∙ sym (append-nil errors); loses = refl; puts = λ e. is }
