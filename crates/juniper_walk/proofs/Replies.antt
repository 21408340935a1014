-- Replies that were taken apart.
use Rattle.std.proofs.Common.{Result, Ok, Err, ◌≡◌, ℕ, ◌+◌, ◌<◌, List, [], ◌∷◌, ◌++◌, length, get_or, take, map, sym, ap, ◌∙◌, subst, refl}
use Rattle.std.proofs.lemmas.List.{map-append}
use Rattle.graphql_spec.specs.Shown.{Shown}
use Rattle.graphql_spec.specs.Errors.{Listed, Place}
use Rattle.graphql_spec.specs.ExactAnswers.{whole}
use Rattle.graphql_spec.specs.Positions.{Position}
use Rattle.graphql_spec.specs.Types.{TypeRef}
use Rattle.graphql_spec.specs.Resolvers.{Error, World, Tree, nothing, Reply, answered, failed}
use Rattle.juniper_assemble.specs.Apart.{IsApart}
use Rattle.graphql_spec.specs.Skeletons.{Spot, Skeleton, absent, listed_spots, reply_skeleton, reply_node_spots, reply_error_spots}
use Rattle.juniper_conversions.specs.ErrorView.{view_error, view_listed}
use Rattle.juniper_conversions.specs.declared.execution_error.ExecutionError.{ExecutionError}
use Rattle.juniper_conversions.specs.declared.field_error.FieldError.{FieldError}
use Rattle.juniper_conversions.specs.declared.field_error.ResolveError.{ResolveError}
use Rattle.juniper_conversions.specs.declared.field_error.ResolveError.TheVariants as error
use Rattle.juniper_values.specs.ResolvedView.{Answers, FailsWith, view_resolved}
use Rattle.juniper_values.specs.declared.resolved.Resolved.{Resolved}
use Rattle.juniper_syntax.proofs.Lists.{seen-push}
use Rattle.juniper_assemble.specs.SpotView.{view_spot}
use Rattle.juniper_assemble.specs.declared.spot.Spot.{Spot as CodeSpot}
use Rattle.juniper_walk.specs.Completing.{IsParted, view_errors}
use Rattle.juniper_walk.proofs.Slices.{taken-one}

module _ {N : Type 0} (W : World N) (at : Place) (t : TypeRef) (r : Reply N) (s : Skeleton) (ns more : List (Spot N)) (es further : List (Spot Error)) where
  pub parted-answer : (a : Tree N) → r ≡ answered a → ns ≡ [] → es ≡ [] → IsApart W at t a s ns more es further →
      (errors : List (Spot Error)) → errors ≡ further →
      IsParted W at t r s more errors
  unfolding reply_skeleton reply_node_spots reply_error_spots
  parted-answer a is none no_errors apart errors same =
      let here : IsApart W at t a s [] more [] further =
      subst (λ x. IsApart W at t a s [] more x further) no_errors (subst (λ x. IsApart W at t a s x more es further) none apart) in
      record {
        skeleton = here.is ∙ sym (ap (reply_skeleton W t) is);
        nodes = here.nodes ∙ sym (ap (reply_node_spots W at t) is);
        errors = same ∙ (here.errors ∙ sym (ap (reply_error_spots W at t) is));
      }

pub parted-failure : {N : Type 0} (W : World N) (at : Place) (t : TypeRef) (r : Reply N) (s : Skeleton) (ns : List (Spot N)) (es : List (Spot Error))
    (e : Error) →
    r ≡ failed e → s ≡ absent → ns ≡ [] →
    es ≡ record { place = at; what = e } ∷ [] → IsParted W at t r s ns es
unfolding reply_skeleton reply_node_spots reply_error_spots
parted-failure W at t r s ns es e is none no_nodes one = record {
  skeleton = none ∙ sym (ap (reply_skeleton W t) is);
  nodes = no_nodes ∙ sym (ap (reply_node_spots W at t) is);
  errors = one ∙ sym (ap (reply_error_spots W at t) is);
}

module _ {N S : Type 0} (shown : S → Shown) (a : Result (Resolved N S) (ResolveError S)) (r : Reply N) where
  pub reply-answers : (x : Resolved N S) → a ≡ Ok x → Answers shown a r → r ≡ answered (view_resolved shown x)
  reply-answers x e given = subst (λ z. Answers shown z r) {y = Ok x} e given

  pub reply-fails : (f : ResolveError S) (x : FieldError S) → a ≡ Err f → f ≡ error.Field x → Answers shown a r → r ≡ failed (view_error shown x)
  reply-fails f x e is given = subst (λ z. FailsWith shown z r) {y = error.Field x} is (subst (λ z. Answers shown z r) {y = Err f} e given)

-- each answer is some reply
pub some-reply : {N S : Type 0} (shown : S → Shown) (a : Result (Resolved N S) (ResolveError S)) → (r : Reply N) × Answers shown a r
some-reply shown (Ok x) = (answered (view_resolved shown x), refl)
some-reply shown (Err (error.Field e)) = (failed (view_error shown e), refl)
some-reply shown (Err error.Memory) = (answered nothing, tt)

-- ## One error more is listed

module _ {S : Type 0} (shown : S → Shown) (start : Position) where
  abbrev listed_one : Spot Error → Listed
  listed_one x = record { path = x.place; start = start; error = x.what }

  last-listed : (es : List (Spot Error)) (e : Spot Error) → listed_spots whole start (es ++ e ∷ []) ≡ listed_spots whole start es ++ listed_one e ∷ []
  unfolding listed_spots
  last-listed es e = map-append listed_one es (e ∷ [])

  pub listed-more : (es : List (CodeSpot (FieldError S))) (i : ℕ) (x : CodeSpot (FieldError S)) (made more : List (ExecutionError S)) (y : ExecutionError S) →
      i < length es → x ≡ get_or es i x → view_listed shown y ≡ listed_one (view_spot (view_error shown) x) → more ≡ made ++ y ∷ [] →
      map (view_listed shown) made ≡ listed_spots whole start (view_errors shown (take i es)) →
      map (view_listed shown) more ≡ listed_spots whole start (view_errors shown (take (i + 1) es))
  listed-more es i x made more y below is listed push so_far =
      seen-push (view_listed shown) made more y push
      ∙ (ap (λ l. l ++ view_listed shown y ∷ []) so_far
      ∙ (ap (λ z. listed_spots whole start (view_errors shown (take i es)) ++ z ∷ []) listed
      ∙ (sym (last-listed (view_errors shown (take i es)) (view_spot (view_error shown) x))
      ∙ ap (listed_spots whole start) (sym (taken-one (view_spot (view_error shown)) es i x below is)))))
