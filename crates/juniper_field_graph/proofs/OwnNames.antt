-- Where the rules on names find nothing, each fragment is the one that its name finds.
use Rattle.std.specs.Prelude.{Bool, true, false, List, [], ◌∷◌, ◌++◌, ◌≡◌, Some, is_some}
use Rattle.std.proofs.lemmas.Bool.{cases_Bool}
use Rattle.std.proofs.lemmas.List.{append_assoc}
use Rattle.std.proofs.Common.{bytes_eq, refl, sym, inl, inr, subst}
use Rattle.graphql_spec.specs.Shown.{Text}
use Rattle.graphql_spec.specs.Documents.{Definition, Document, Fragment, fragment, fragments, operation}
use Rattle.graphql_spec.specs.Fragments.{fragment_of}
use Rattle.graphql_spec.specs.Laws.{In}
use Rattle.graphql_spec.specs.Rules.{at_each, has_unknown_directive, has_unknown_type, name_errors, repeats_argument, repeats_fragment}
use Rattle.graphql_spec.specs.Rules.{repeats_input_field, repeats_variable, reported, spreads_itself, spreads_unknown}
use Rattle.graphql_spec.specs.Schema.{Schema}
use Rattle.graphql_spec.specs.ValidityLaws.{HasGoodNames}
use Rattle.graphql_spec.proofs.Lists.{same_refl}

both-empty : {A : Type 0} (xs ys : List A) → xs ++ ys ≡ [] → (xs ≡ []) × (ys ≡ [])
both-empty [] ys e = (refl, e)
both-empty (x ∷ xs) ys e = cc

not-reported : (violated : Bool) (text : Text) (x : Definition) → reported violated text x ≡ [] → violated ≡ false
unfolding reported
not-reported true text x e = cc
not-reported false text x e = refl

-- ## The first fragment of a name

-- one that stands behind others of which none has its name
behind-others : (earlier ds : List Definition) (f : Fragment) → is_some (fragment_of (fragments earlier) f.name.item) ≡ false →
    fragment_of (fragments (earlier ++ fragment f ∷ ds)) f.name.item ≡ Some f
unfolding fragments fragment_of
behind-others [] ds f none = rw (same_refl f.name.item) refl
behind-others (operation o ∷ earlier) ds f none = behind-others earlier ds f none
behind-others (fragment g ∷ earlier) ds f none = elim (cases_Bool (bytes_eq f.name.item g.name.item)) [
  | inl q ↦ (let z : true ≡ false = rw q at none in cc)
  | inr q ↦ rw q (behind-others earlier ds f (rw q at none))
]

module _ (s : Schema) (disabled : Bool) (d : Document) where
  not-repeated : (earlier : List Definition) (x : Definition) → name_errors s disabled d earlier x ≡ [] → repeats_fragment earlier x ≡ false
  unfolding name_errors
  not-repeated earlier x e =
      let a = both-empty _ (reported (has_unknown_type s x) _ x) e in
      let b = both-empty _ (reported (has_unknown_directive x) _ x) a.0 in
      let c = both-empty _ (reported (repeats_input_field x) _ x) b.0 in
      let f = both-empty _ (reported (repeats_argument x) _ x) c.0 in
      let g = both-empty _ (reported (repeats_variable x) _ x) f.0 in
      let h = both-empty _ (reported (spreads_itself d x) _ x) g.0 in
      let j = both-empty _ (reported (spreads_unknown d x) _ x) h.0 in
      let k = both-empty _ (reported (repeats_fragment earlier x) _ x) j.0 in
      not-reported (repeats_fragment earlier x) _ x k.1

  finds-itself : (earlier ds : List Definition) → at_each (name_errors s disabled d) earlier ds ≡ [] → (f : Fragment) → In (fragment f) ds →
      fragment_of (fragments (earlier ++ ds)) f.name.item ≡ Some f
  unfolding at_each repeats_fragment
  finds-itself earlier [] e f i = absurd i
  finds-itself earlier (x ∷ ds) e f (inl q) =
      let r : repeats_fragment earlier (fragment f) ≡ false = subst (λ y. repeats_fragment earlier y ≡ false) (sym q)
      (not-repeated earlier x (both-empty (name_errors s disabled d earlier x) (at_each (name_errors s disabled d) (earlier ++ x ∷ []) ds) e).0) in
      subst (λ y. fragment_of (fragments (earlier ++ y ∷ ds)) f.name.item ≡ Some f) q (behind-others earlier ds f r)
  finds-itself earlier (x ∷ ds) e f (inr i) =
      subst (λ xs. fragment_of (fragments xs) f.name.item ≡ Some f) (append_assoc earlier (x ∷ []) ds)
      (finds-itself (earlier ++ x ∷ []) ds
      (both-empty (name_errors s disabled d earlier x) (at_each (name_errors s disabled d) (earlier ++ x ∷ []) ds) e).1 f i)

  pub own-fragment : HasGoodNames s disabled d → (f : Fragment) → In (fragment f) d → fragment_of (fragments d) f.name.item ≡ Some f
  own-fragment good f i = finds-itself [] d good f i
