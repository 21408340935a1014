-- A reply that is completed occurrence by occurrence.
use Rattle.std.proofs.Common.{◌≡◌, ◌||◌, ◌&&◌, ℕ, zero, suc, Bool, true, false, List, [], ◌∷◌, ◌++◌, refl, sym, ap, ◌∙◌, inl, subst, IsTrue}
use Rattle.std.proofs.lemmas.List.{append-nil, map-append}
use Rattle.graphql_spec.specs.Positions.{Position}
use Rattle.graphql_spec.specs.Values.{Value, null, is_null, join}
use Rattle.graphql_spec.specs.Types.{TypeRef, required, innermost}
use Rattle.graphql_spec.specs.Errors.{Place, Listed}
use Rattle.graphql_spec.specs.Selections.{Forest, chain, Occurrence, occurrences, with_key, all_below}
use Rattle.graphql_spec.specs.Resolvers.{Reply, World, world_of}
use Rattle.graphql_spec.specs.Execution.{type_of, data_of, value_of}
use Rattle.graphql_spec.specs.Failures.{Failure, starts_of, reply_faults, failures_of}
use Rattle.graphql_spec.specs.Nulls.{reply_standing, nulls_of}
use Rattle.graphql_spec.specs.Walk.{Met}
use Rattle.graphql_spec.specs.Laws.{In, Agree, Merges}
use Rattle.graphql_spec.proofs.Lists.{all_below-append}
use Rattle.graphql_spec.proofs.Grouping.{below, SameField, agree_below, key_agrees, in_first}
use Rattle.graphql_spec.proofs.Objects.{is_null-join}
use Rattle.graphql_spec.proofs.Whole.{data-join, values_join}
use Rattle.graphql_spec.proofs.Failing.{tally, reply_faults-add}
use Rattle.graphql_spec.proofs.Nulls.{Places, In2, reply_standing-split}
use Rattle.graphql_spec.proofs.Walk.{Together, met-join, met-stop}
use Rattle.graphql_spec.specs.GroupLaws.{IsCompleted, FirstCompleted, OneMoreCompleted, LostCompleted, KeysMerge, RunGroupsMerge}
use Rattle.graphql_spec.specs.Fields.{is_possible}
use Rattle.graphql_spec.specs.Requests.{selected}
use Rattle.graphql_spec.proofs.ValidRuns.{runs_agree}
use Rattle.graphql_spec.proofs.Parts.{chain-end, failures-join, nulls-join}

either-lost : (a b r : Bool) → ((a && r) || (b && r)) ≡ ((a || b) && r)
either-lost true true true = refl
either-lost true true false = refl
either-lost true false true = refl
either-lost true false false = refl
either-lost false true true = refl
either-lost false true false = refl
either-lost false false true = refl
either-lost false false false = refl

one-below : (o : Occurrence) → all_below (o ∷ []) ≡ o.below
unfolding all_below
one-below o = chain-end o.below

more-below : (os : List Occurrence) (o : Occurrence) → all_below (os ++ o ∷ []) ≡ chain (all_below os) o.below
more-below os o = all_below-append os (o ∷ []) ∙ ap (chain (all_below os)) (one-below o)

more-starts : (os ps : List Occurrence) → starts_of (os ++ ps) ≡ starts_of os ++ starts_of ps
unfolding starts_of
more-starts os ps = map-append (λ (o : Occurrence). o.head.span.start) os ps

module _ {N : Type 0} (W : World N) (here above : Place) (t : TypeRef) (r : Reply N) where
  -- what fails of a reply for the selections s
  unfoldable pub failing : List Position → Forest → List Failure
  failing starts s = reply_faults W (λ place to U n. failures_of W place to U n s) here starts above t r

  unfoldable pub standing : Forest → Places
  standing s = reply_standing W (λ U n. data_of W U n s) (λ place U n. nulls_of W place U n s) here t r

  module _ (s u : Forest) (c : Merges W (innermost t) (chain s u)) where
    failing-together : (one other : List Position) → Together (failing (one ++ other) (chain s u)) (failing one s) (failing other u)
    unfolding failing tally
    failing-together one other P = reply_faults-add W P (λ place to U n. failures_of W place to U n s) (λ place to U n. failures_of W place to U n u)
        (λ place to U n. failures_of W place to U n (chain s u))
        here one other above t r (λ place to U n h. failures-join W U s u (λ d. c d U h) P place to n)

    standing-split : (p : Place) → In p (standing (chain s u)) → In2 p (standing s) (standing u)
    unfolding standing
    standing-split p i = reply_standing-split W (λ U n. data_of W U n s) (λ U n. data_of W U n u) (λ U n. data_of W U n (chain s u))
        (λ place U n. nulls_of W place U n s) (λ place U n. nulls_of W place U n u) (λ place U n. nulls_of W place U n (chain s u)) p here t r
        (λ U n h. data-join W U n s u (λ d. c d U h)) (λ place U n h j. nulls-join W U s u (λ d. c d U h) place n p j) i

module _ (tell : Place → Place) {N : Type 0} (W : World N) where
  pub first-completed : FirstCompleted tell W
  unfolding starts_of
  first-completed here above t r o v es c = subst (λ z. IsCompleted tell W here above t r (o.head.span.start ∷ []) z v es) (sym (one-below o)) c

  -- two parts
  both-completed : (here above : Place) (t : TypeRef) (r : Reply N) (one other : List Position) (s u : Forest) (v w : Value) (es ds : List Listed) →
      Merges W (innermost t) (chain s u) →
      IsCompleted tell W here above t r one s v es → IsCompleted tell W here above t r other u w ds →
      IsCompleted tell W here above t r (one ++ other) (chain s u) (join v w) (es ++ ds)
  unfolding failing standing
  both-completed here above t r one other s u v w es ds c a b = record {
    value = rw (a.value, b.value) (sym (values_join W t r s u c));
    errors = subst (λ z. Met tell z (es ++ ds) (failing W here above t r (one ++ other) (chain s u)) above (standing W here above t r (chain s u)))
        (either-lost (is_null v) (is_null w) (required t) ∙ ap (λ z. z && required t) (sym (is_null-join v w)))
        (met-join tell (is_null v && required t) (is_null w && required t) es ds (failing W here above t r (one ++ other) (chain s u))
        (failing W here above t r one s) (failing W here above t r other u) above
        (standing W here above t r (chain s u)) (standing W here above t r s) (standing W here above t r u) a.errors b.errors
        (failing-together W here above t r s u c one other) (standing-split W here above t r s u c));
  }

  pub one-more-completed : OneMoreCompleted tell W
  unfolding starts_of
  one-more-completed here above t r os o v u es ds c a b =
      let e = more-below os o in
      let m : Merges W (innermost t) (chain (all_below os) o.below) = subst (λ z. Merges W (innermost t) z) e c in
      subst (λ z. IsCompleted tell W here above t r (starts_of (os ++ o ∷ [])) z (join v u) (es ++ ds)) (sym e)
      (subst (λ z. IsCompleted tell W here above t r z (chain (all_below os) o.below) (join v u) (es ++ ds)) (sym (more-starts os (o ∷ [])))
      (both-completed here above t r (starts_of os) (o.head.span.start ∷ []) (all_below os) o.below v u es ds m a b))

  null-first : (w : Value) → join null w ≡ null
  unfolding join
  null-first w = refl

  pub lost-completed : LostCompleted tell W
  unfolding failing standing is_null
  lost-completed here above t r os rest es c q a =
      let e = all_below-append os rest in
      let m : Merges W (innermost t) (chain (all_below os) (all_below rest)) = subst (λ z. Merges W (innermost t) z) e c in
      let d : Met tell true es (failing W here above t r (starts_of os) (all_below os)) above (standing W here above t r (all_below os)) = rw q at a.errors in
      subst (λ z. IsCompleted tell W here above t r (starts_of (os ++ rest)) z null es) (sym e)
      (subst (λ z. IsCompleted tell W here above t r z (chain (all_below os) (all_below rest)) null es) (sym (more-starts os rest)) (record {
        value = sym (values_join W t r (all_below os) (all_below rest) m ∙ (ap (λ z. join z (value_of W t r (all_below rest))) (sym a.value) ∙ null-first
            (value_of W t r (all_below rest))));
        errors = rw q (met-stop tell es (failing W here above t r (starts_of os ++ starts_of rest) (chain (all_below os) (all_below rest)))
            (failing W here above t r (starts_of os) (all_below os)) (failing W here above t r (starts_of rest) (all_below rest))
            above (standing W here above t r (chain (all_below os) (all_below rest))) (standing W here above t r (all_below os)) d
            (failing-together W here above t r (all_below os) (all_below rest) m (starts_of os) (starts_of rest)));
      }))

module _ {N : Type 0} (W : World N) where
  pub keys-merge : KeysMerge W
  unfolding below SameField type_of occurrences all_below
  keys-merge T os agrees k [] rest e d U h = nothing d
    where
      nothing : (d : ℕ) → Agree W d U (occurrences W.possible U (all_below []))
      nothing zero = tt
      nothing (suc d) = λ x y i j q. absurd i
  keys-merge T os agrees k (o ∷ front) rest e d U h =
      let inside : (x : Occurrence) → In x (o ∷ front) → In x (with_key k os) = λ x i. subst (λ z. In x z) (sym e) (in_first x (o ∷ front) rest i) in
      let same : (x y : Occurrence) → In x (o ∷ front) → In y (o ∷ front) → SameField W d T x y = λ x y i j.
      key_agrees W d T os (agrees (suc d)) k x y (inside x i) (inside y j) in
      let h' : IsTrue (W.possible U (innermost (W.field_type T o.head.name.item))) = subst (λ z. IsTrue (W.possible U (innermost (type_of W T z)))) e h in
      let both : Agree W d U (below W U (o ∷ front) ++ below W U []) = agree_below W d U (o ∷ front) [] (λ x y i j.
      let i' = subst (λ z. In x z) (append-nil (o ∷ front)) i in let j' = subst (λ z. In y z) (append-nil (o ∷ front)) j in
      (same x y i' j').2 U (subst (λ z. IsTrue (W.possible U (innermost (W.field_type T z)))) (same o x (inl refl) i').0 h')) in
      subst (λ z. Agree W d U z) (append-nil (below W U (o ∷ front))) both

pub run-groups-merge : (N : Type 0) → RunGroupsMerge N
unfolding world_of
run-groups-merge N s disabled n given text d o vars e x concrete answer T r k front rest q =
    keys-merge (world_of s vars concrete answer) T (occurrences (is_possible s) T (selected d o vars))
    (λ depth. (runs_agree s disabled n given text d o vars e x concrete answer T r depth).0) k front rest q
