-- A reply that is completed for one occurrence after the other.
use Rattle.std.proofs.Common.{◌≡◌, ℕ, zero, suc, List, [], ◌∷◌, ◌++◌, inl, inr, sym, ap, ◌∙◌, subst}
use Rattle.graphql_spec.specs.Shown.{Name}
use Rattle.graphql_spec.specs.Values.{Value, join}
use Rattle.graphql_spec.specs.Types.{TypeRef, innermost}
use Rattle.graphql_spec.specs.Errors.{Place, Listed}
use Rattle.graphql_spec.specs.ExactAnswers.{whole}
use Rattle.graphql_spec.specs.GroupLaws.{GroupCompleted, IsCompletedFor, all_starts}
use Rattle.graphql_spec.specs.Laws.{Agree, In, Merges}
use Rattle.graphql_spec.specs.Resolvers.{Error, Reply, World}
use Rattle.graphql_spec.specs.Selections.{Occurrence, all_below, occurrences}
use Rattle.graphql_spec.proofs.Completing.{first-completed, one-more-completed}
use Rattle.graphql_spec.proofs.Grouping.{in_first, in_second}
use Rattle.graphql_spec.proofs.Lists.{all_below-append, occurrences-chain}
use Rattle.graphql_spec.proofs.Picked.{all-completed}
use Rattle.juniper_assemble.specs.Keyed.{IsJoin}
use Rattle.juniper_assemble.specs.SkeletonView.{IsFilledFrom}
use Rattle.graphql_spec.specs.Skeletons.{Spot, Skeleton, fill, listed_spots, reply_error_spots}
use Rattle.graphql_spec.specs.Walks.{AreWalkedAt}
use Rattle.graphql_spec.proofs.Agreeing.{agree-front, reply-possible}
use Rattle.graphql_spec.proofs.ByNodes.{occurrence-by-nodes}
use Rattle.juniper_walk.specs.Completing.{IsParted}
use Rattle.juniper_twin.specs.Completing.{AreSome, IsOne}
use Rattle.juniper_twin.specs.Walking.{AreAllWalked, AreReached}
use Rattle.juniper_twin.proofs.Additions.{value-keyed}

-- ## What the occurrences select

module _ {N : Type 0} (W : World N) where
  agree-part : (d : ℕ) (T : Name) (os ps : List Occurrence) → ((x : Occurrence) → In x ps → In x os) → Agree W d T os → Agree W d T ps
  agree-part zero T os ps part a = tt
  agree-part (suc d) T os ps part a = λ x y i j. a x y (part x i) (part y j)

  below-in : (U : Name) (os : List Occurrence) (o : Occurrence) → In o os → (x : Occurrence) → In x (occurrences W.possible U o.below) →
      In x (occurrences W.possible U (all_below os))
  unfolding all_below
  below-in U [] o i x j = absurd i
  below-in U (p ∷ os) o (inl e) x j = subst (λ l. In x l) (sym (occurrences-chain W.possible U p.below (all_below os)))
      (in_first x (occurrences W.possible U p.below) (occurrences W.possible U (all_below os))
      (subst (λ (q : Occurrence). In x (occurrences W.possible U q.below)) e j))
  below-in U (p ∷ os) o (inr i) x j = subst (λ l. In x l) (sym (occurrences-chain W.possible U p.below (all_below os)))
      (in_second x (occurrences W.possible U p.below) (occurrences W.possible U (all_below os)) (below-in U os o i x j))

  one-merges : (n : Name) (os : List Occurrence) (o : Occurrence) → In o os → Merges W n (all_below os) → Merges W n o.below
  one-merges n os o i m = λ d U h. agree-part d U (occurrences W.possible U (all_below os)) (occurrences W.possible U o.below) (below-in U os o i) (m d U h)

  front-merges : (n : Name) (front rest : List Occurrence) → Merges W n (all_below (front ++ rest)) → Merges W n (all_below front)
  front-merges n front rest m = λ d U h. agree-front W d U (occurrences W.possible U (all_below front)) (occurrences W.possible U (all_below rest))
      (subst (λ l. Agree W d U l) (ap (occurrences W.possible U) (all_below-append front rest)
      ∙ occurrences-chain W.possible U (all_below front) (all_below rest)) (m d U h))

  -- for each node of a reply, what each occurrence selects agrees
  pub each-reached : (here : Place) (t : TypeRef) (r : Reply N) (s : Skeleton) (ns : List (Spot N)) (es : List (Spot Error)) →
      IsParted W here t r s ns es → (os : List Occurrence) → Merges W (innermost t) (all_below os) →
      (o : Occurrence) → In o os → AreReached W ns o.below
  each-reached here t r s ns es parted os m o i =
      λ x j d. one-merges (innermost t) os o i m d (W.concrete x.what) (reply-possible W here t r x (subst (λ l. In x l) parted.nodes j))

  -- ## One occurrence

  module _ (s : Skeleton) (ns : List (Spot N)) (errors : List (Spot Error)) where
    pub one-at : (o : Occurrence) (vs ws left : List Value) (below es : List Listed) (v : Value) (copy : Skeleton) →
        AreAllWalked W o.below ns vs below → copy ≡ s → ws ≡ vs →
        IsFilledFrom (fill copy ws) v left → es ≡ listed_spots whole o.head.span.start errors ++ below → IsOne W s ns errors o v es
    one-at o vs ws left below es v copy walked copied same from listed = let filled : IsFilledFrom (fill s ws) v left =
        subst (λ x. IsFilledFrom (fill x ws) v left) copied from in record {
          completed = λ here t r p. occurrence-by-nodes W whole here [] t r o vs walked.parts
              (subst (λ ms. AreWalkedAt whole W o.below ms vs walked.parts) p.nodes walked.walked)
              v (filled.value ∙ (ap (λ l. (fill s l).value) same ∙ ap (λ x. (fill x vs).value) p.skeleton))
              es (listed ∙ (ap (λ l. l ++ below) (ap (listed_spots whole o.head.span.start) p.errors)
              ∙ ap (λ l. listed_spots whole o.head.span.start (reply_error_spots W here t r) ++ l) walked.listed));
          keyed = value-keyed s vs ws left v walked.keyed same filled;
        }

    -- ## One after the other

    module _ (all : List Occurrence) where
      pub some-first : (o : Occurrence) (os : List Occurrence) (v : Value) (es : List Listed) → os ≡ o ∷ [] → IsOne W s ns errors o v es →
          AreSome W s ns errors all os v es
      some-first o os v es is one = record {
        completed = λ here t r p m. subst (λ l. IsCompletedFor whole W here [] t r l v es) (sym is)
            (first-completed whole W here [] t r o v es (one.completed here t r p));
        keyed = one.keyed;
      }

      pub some-more : (os next rest : List Occurrence) (o : Occurrence) (v u w : Value) (es ds more : List Listed) → all ≡ next ++ rest →
          next ≡ os ++ o ∷ [] → more ≡ es ++ ds →
          AreSome W s ns errors all os v es → IsOne W s ns errors o u ds → IsJoin v u w → AreSome W s ns errors all next w more
      some-more os next rest o v u w es ds more split is listed some one joined = record {
        completed = λ here t r p m.
            let front : Merges W (innermost t) (all_below (os ++ o ∷ [])) =
            subst (λ l. Merges W (innermost t) (all_below l)) is
            (front-merges (innermost t) next rest (subst (λ l. Merges W (innermost t) (all_below l)) split m)) in
            let both : IsCompletedFor whole W here [] t r (os ++ o ∷ []) (join v u) (es ++ ds) =
            one-more-completed whole W here [] t r os o v u es ds front (some.completed here t r p m) (one.completed here t r p) in
            subst (λ l. IsCompletedFor whole W here [] t r l w more) (sym is)
            (subst (λ x. IsCompletedFor whole W here [] t r (os ++ o ∷ []) x more) (sym joined.is)
            (subst (λ x. IsCompletedFor whole W here [] t r (os ++ o ∷ []) (join v u) x) (sym listed) both));
        keyed = joined.keyed;
      }

      pub some-all : (os : List Occurrence) (v : Value) (es : List Listed) → os ≡ all → AreSome W s ns errors all os v es →
          AreSome W s ns errors all all v es
      some-all os v es is some = subst (λ l. AreSome W s ns errors all l v es) is some

      pub all-at : (v : Value) (es : List Listed) → AreSome W s ns errors all all v es → (here : Place) (t : TypeRef) (r : Reply N) →
          IsParted W here t r s ns errors → Merges W (innermost t) (all_below all) →
          GroupCompleted whole all_starts W here [] t r all v es
      all-at v es some here t r p m = all-completed W whole here [] t r all v es (some.completed here t r p m)
