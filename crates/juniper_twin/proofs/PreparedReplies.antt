-- A field's answer, taken apart from its nodes.
use Rattle.std.proofs.Common.{◌≡◌, Bool, List, [], ◌∷◌, ◌++◌, Bor, refl, sym, ap, ◌∙◌, subst}
use Rattle.graphql_spec.specs.Shown.{Shown, Name}
use Rattle.graphql_spec.specs.Documents.{response_key}
use Rattle.graphql_spec.specs.Types.{TypeRef, required}
use Rattle.graphql_spec.specs.Errors.{Place, key, Listed}
use Rattle.graphql_spec.specs.ExactAnswers.{whole}
use Rattle.graphql_spec.specs.Selections.{Occurrence, occurrences, with_key}
use Rattle.graphql_spec.specs.Resolvers.{Error, World}
use Rattle.graphql_spec.specs.Execution.{type_of, reply_of}
use Rattle.graphql_spec.specs.Skeletons.{Spot, Skeleton, listed_spots}
use Rattle.juniper_walk.specs.Completing.{IsParted}
use Rattle.juniper_twin.specs.Walking.{IsPrepared}

module _ {N : Type 0} (W : World N) (at : Place) (T : Name) (m : N) (o : Occurrence) (r : Bool) (s : Skeleton) (ns : List (Spot N))
    (es : List Listed) where
  pub prepared-reply : (place : Place) (t : TypeRef) (errors : List (Spot Error)) → place ≡ at ++ key (response_key o.head) ∷ [] → r ≡ required t →
      t ≡ type_of W T (o ∷ []) →
      IsParted W place t (reply_of W T m (o ∷ [])) s ns errors → es ≡ listed_spots whole o.head.span.start errors → IsPrepared W at T m o r s ns es
  prepared-reply place t errors is q typed parted listed =
      let here : IsParted W (at ++ key (response_key o.head) ∷ []) (type_of W T (o ∷ [])) (reply_of W T m (o ∷ [])) s ns errors =
      subst (λ p. IsParted W p (type_of W T (o ∷ [])) (reply_of W T m (o ∷ [])) s ns errors) is
      (subst (λ u. IsParted W place u (reply_of W T m (o ∷ [])) s ns errors) typed parted) in
      record {
        non_null = q ∙ ap required typed;
        skeleton = here.skeleton;
        nodes = here.nodes;
        errors = listed ∙ ap (listed_spots whole o.head.span.start) here.errors;
      }
