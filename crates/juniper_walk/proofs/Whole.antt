-- The fields of a group are all that the selections around them hold of its response key (6.3.2), and its answer is taken apart (6.4.3).
use Rattle.std.proofs.Common.{◌≡◌, ℕ, zero, suc, ◌<◌, Bool, List, [], ◌∷◌, ◌++◌, length, get_or, drop, refl, sym, ap, ◌∙◌, subst, arith, inl}
use Rattle.graphql_spec.specs.Shown.{Shown, Name}
use Rattle.graphql_spec.specs.Documents.{Head, response_key}
use Rattle.graphql_spec.specs.Types.{TypeRef, required}
use Rattle.graphql_spec.specs.Errors.{Place, key, Listed}
use Rattle.graphql_spec.specs.ExactAnswers.{whole}
use Rattle.graphql_spec.specs.Laws.{In}
use Rattle.graphql_spec.specs.Resolvers.{Error, World}
use Rattle.graphql_spec.specs.Execution.{type_of, reply_of}
use Rattle.graphql_spec.specs.Selections.{chain, Occurrence, occurrences, with_key}
use Rattle.graphql_spec.proofs.Grouping.{in_with_key}
use Rattle.graphql_spec.specs.Skeletons.{Spot, Skeleton, listed_spots}
use Rattle.juniper_syntax.specs.DocumentView.{view_selections}
use Rattle.juniper_lookahead.specs.Expansion.{FragmentsByName, VariableMap, expanded, fragments_among, occurrence_at}
use Rattle.juniper_lookahead.specs.FragmentView.{ExpandAlike, fragments_in}
use Rattle.juniper_lookahead.specs.Collected.{view_all, view_collected}
use Rattle.juniper_lookahead.specs.declared.collecting.Collector.{Collector}
use Rattle.juniper_lookahead.specs.declared.occurrences.Occurrence.{Occurrence as CodeOccurrence}
use Rattle.juniper_walk.specs.Completing.{IsParted}
use Rattle.juniper_walk.specs.Asking.{IsAskedOf}
use Rattle.juniper_walk.specs.FieldWords.{head_of}
use Rattle.juniper_walk.proofs.Preparation.{same-expansion, same-head, same-occurrence}
use Rattle.juniper_lookahead.specs.declared.occurrences.Enclosing.{Enclosing}
use Rattle.juniper_walk.specs.declared.plan.Plan.{Plan}
use Rattle.juniper_walk.specs.Plans.{IsAskedAt, all_expanded}
use Rattle.juniper_walk.specs.PlanWalks.{HasFirst, IsGroupOf, IsPrepared}
use Rattle.juniper_lookahead.specs.Sites.{IsWholeGroup, expanded_each, view_fields}

module _ {S P : Type 0} (shown : S → Shown) (c : Collector S P) (m : FragmentsByName S)
    (alike : ExpandAlike (fragments_among shown m) (fragments_in shown c.fragments.now)) where
  pub same-fields : (fs : List (CodeOccurrence S)) → view_all shown c fs ≡ view_fields shown c.variables.now m fs
  same-fields [] = refl
  same-fields (f ∷ fs) = ap (λ o. o ∷ view_all shown c fs) (same-occurrence shown c m alike f.field.now)
      ∙ ap (λ l. occurrence_at shown c.variables.now m f.field.now ∷ l) (same-fields fs)

  same-each : (es : List (Enclosing S)) → all_expanded shown c es ≡ expanded_each shown c.variables.now m es
  unfolding all_expanded expanded_each
  same-each [] = refl
  same-each (e ∷ es) = ap (λ s. chain s (all_expanded shown c es)) (same-expansion shown c m alike (view_selections shown e.selections.now))
      ∙ ap (chain (expanded shown c.variables.now m (view_selections shown e.selections.now))) (same-each es)

  pub whole-at : (possible : Name → Name → Bool) (vars : VariableMap S) (T : Name) (es : List (Enclosing S)) (fs : List (CodeOccurrence S)) (k : Name) →
      vars ≡ c.variables.now → IsGroupOf k (occurrences possible T (all_expanded shown c es)) (view_all shown c fs) →
      IsWholeGroup shown possible vars m T es fs
  whole-at possible vars T es fs k is group =
      let fields = same-fields fs in
      subst (λ v. IsWholeGroup shown possible v m T es fs) (sym is) (record {
        key = k;
        first = group.first;
        others = group.others;
        some = sym fields ∙ group.some;
        whole = sym fields ∙ (group.whole ∙ ap (λ s. with_key k (occurrences possible T s)) (same-each es));
      })

module _ {S P : Type 0} (shown : S → Shown) (c : Collector S P) where
  -- the first field of a group
  pub first-field : (fs : List (CodeOccurrence S)) (d : CodeOccurrence S) (k : Name) (all : List Occurrence) →
      (group : IsGroupOf k all (view_all shown c fs)) →
      (group.first.head ≡ head_of shown (get_or fs 0 d).field.now) × (k ≡ response_key (head_of shown (get_or fs 0 d).field.now))
  first-field [] d k all group = let e = group.some in absurd cc
  first-field (x ∷ xs) d k all group =
      let e : view_collected shown c x.field.now ∷ view_all shown c xs ≡ group.first ∷ group.others = group.some in
      let same : view_collected shown c x.field.now ≡ group.first = cc in
      let head : group.first.head ≡ head_of shown x.field.now = ap (λ o. o.head) (sym same) ∙ same-head shown c x.field.now in
      let among : In group.first (with_key k all) = subst (λ l. In group.first l) (sym group.some ∙ group.whole) (inl refl) in
      (head, (in_with_key group.first k all among).1 ∙ ap response_key head)

  pub first-of : (fs : List (CodeOccurrence S)) (d : CodeOccurrence S) (has : HasFirst (view_all shown c fs)) →
      has.first.head ≡ head_of shown (get_or fs 0 d).field.now
  first-of [] d has = let e = has.some in absurd cc
  first-of (x ∷ xs) d has =
      let e : view_collected shown c x.field.now ∷ view_all shown c xs ≡ has.first ∷ has.others = has.some in
      let same : view_collected shown c x.field.now ≡ has.first = cc in
      ap (λ o. o.head) (sym same) ∙ same-head shown c x.field.now

  pub has-field : (fs : List (CodeOccurrence S)) → HasFirst (view_all shown c fs) → 0 < length fs
  has-field [] has = let e = has.some in absurd cc
  has-field (x ∷ xs) has = omega arith

  pub some-field : (fs : List (CodeOccurrence S)) (k : Name) (all : List Occurrence) → IsGroupOf k all (view_all shown c fs) → 0 < length fs
  some-field [] k all group = let e = group.some in absurd cc
  some-field (x ∷ xs) k all group = omega arith

-- what is kept at a place is what is asked there
cons-head : {A : Type 0} (x y : A) (xs ys : List A) → x ∷ xs ≡ y ∷ ys → x ≡ y
cons-head x y xs ys e = cc

pub asked-here : {S Q : Type 0} (asks : Name → Head → Q → Type 0) (T : Name) (p : Plan S Q) (i : ℕ) (os ps : List Occurrence) (q : Q) (more : List Q) →
    IsAskedAt asks T p i os → drop i p.questions.items ≡ q ∷ more → os ≡ ps → IsAskedOf (asks T) ps q
asked-here asks T p i os ps q more at here same =
    subst (λ l. IsAskedOf (asks T) l q) same
    (subst (IsAskedOf (asks T) os) (cons-head at.question q at.others more (sym at.kept ∙ here)) at.asked)

pub still-asked : {S Q : Type 0} (asks : Name → Head → Q → Type 0) (T : Name) (p : Plan S Q) (i : ℕ) (os : List Occurrence) → IsAskedAt asks T p i os →
    i < length p.questions.items
still-asked asks T p i os at = drop-some p.questions.items i at.question at.others at.kept
  where
    drop-some : {A : Type 0} (xs : List A) (n : ℕ) (x : A) (more : List A) → drop n xs ≡ x ∷ more → n < length xs
    drop-some [] zero x more e = absurd cc
    drop-some [] (suc n) x more e = absurd cc
    drop-some (y ∷ xs) zero x more e = omega arith
    drop-some (y ∷ xs) (suc n) x more e = let r = drop-some xs n x more e in omega (arith, r)

module _ {N : Type 0} (W : World N) (at : Place) (T : Name) (m : N) (k : Name) (all os : List Occurrence) (key_is : Name) (r : Bool) (s : Skeleton)
    (ns : List (Spot N)) (es : List Listed) where
  pub prepared-group : (group : IsGroupOf k all os) (place : Place) (t : TypeRef) (errors : List (Spot Error)) → key_is ≡ k → place ≡ at ++ key k ∷ [] →
      r ≡ required t → t ≡ type_of W T os → IsParted W place t (reply_of W T m os) s ns errors →
      es ≡ listed_spots whole group.first.head.span.start errors → IsPrepared W at T m k os key_is r s ns es
  prepared-group group place t errors same is q typed parted listed =
      let here : IsParted W (at ++ key k ∷ []) (type_of W T os) (reply_of W T m os) s ns errors =
      subst (λ p. IsParted W p (type_of W T os) (reply_of W T m os) s ns errors) is
      (subst (λ u. IsParted W place u (reply_of W T m os) s ns errors) typed parted) in
      record {
        first = group.first;
        others = group.others;
        some = group.some;
        same = same;
        non_null = q ∙ ap required typed;
        skeleton = here.skeleton;
        nodes = here.nodes;
        errors = listed ∙ ap (listed_spots whole group.first.head.span.start) here.errors;
      }
