-- One more field of a node is walked (6.3, 6.4.3).
use Rattle.std.proofs.Common.{◌≡◌, ℕ, zero, suc, Bool, true, false, ◌&&◌, cond, List, [], ◌∷◌, ◌++◌, refl, sym, ap, ◌∙◌, inl, inr, subst, append_assoc, arith}
use Rattle.std.proofs.Common.{◌≤◌}
use Rattle.std.proofs.lemmas.List.{append-nil}
use Rattle.graphql_spec.specs.Shown.{Name}
use Rattle.graphql_spec.specs.Documents.{response_key}
use Rattle.graphql_spec.specs.Values.{Value, null, object, no_entries, entry, is_null, join}
use Rattle.graphql_spec.specs.Types.{TypeRef, required}
use Rattle.graphql_spec.specs.Errors.{Place, key, Listed}
use Rattle.graphql_spec.specs.Selections.{end, depth, Occurrence, occurrences, all_below, keys}
use Rattle.graphql_spec.specs.Resolvers.{World, Reply}
use Rattle.graphql_spec.specs.Execution.{data_of, type_of, reply_of, grouped, finish, of_key, whole_object, is_lost, entries}
use Rattle.graphql_spec.specs.Failures.{failures, failures_of, key_failures, reply_faults, starts_of}
use Rattle.graphql_spec.specs.Nulls.{nulls, nulls_of, key_standing, reply_standing}
use Rattle.graphql_spec.specs.Laws.{In, Agree}
use Rattle.graphql_spec.specs.Walk.{Met}
use Rattle.graphql_spec.proofs.Answered.{walks_answer}
use Rattle.graphql_spec.proofs.Lists.{occurrences-chain}
use Rattle.graphql_spec.proofs.Objects.{join-null}
use Rattle.graphql_spec.proofs.Walk as base
use Rattle.graphql_spec.proofs.Walk.{walked-join, walked-stop, walked-one, one_entry}
use Rattle.graphql_spec.specs.Skeletons.{reply_skeleton, reply_node_spots, reply_error_spots, listed_apart, listed_spots, fill}
use Rattle.graphql_spec.specs.CompletionLaws.{all_listed}
use Rattle.graphql_spec.specs.Walks.{IsWalked, AreWalkedAt, joined_in, NoneWalked, OneMoreWalked, WalkAnswers}
use Rattle.graphql_spec.proofs.Listing.{met-nothing}
use Rattle.graphql_spec.proofs.Filling.{reply-fills}
use Rattle.graphql_spec.proofs.CompletedValues.{reply-met}
use Rattle.graphql_spec.proofs.Telling.{reply-objects, listed-reply}
use Rattle.graphql_spec.proofs.Joining.{join-one}

to-base : (tell : Place → Place) {N : Type 0} (W : World N) (d : ℕ) (here above : Place) (T : Name) (m : N) (os : List Occurrence) (v : Value)
    (es : List Listed) → IsWalked tell W d here above T m os v es → base.Walked tell W d here above T m os v es
to-base tell W d here above T m os v es w = record { value = w.value; errors = w.errors }

from-base : (tell : Place → Place) {N : Type 0} (W : World N) (d : ℕ) (here above : Place) (T : Name) (m : N) (os : List Occurrence) (v : Value)
    (es : List Listed) → base.Walked tell W d here above T m os v es → IsWalked tell W d here above T m os v es
from-base tell W d here above T m os v es w = record { value = w.value; errors = w.errors }

pub none-walked : (tell : Place → Place) {N : Type 0} (W : World N) → NoneWalked tell W
unfolding grouped whole_object is_lost entries keys failures nulls is_null
none-walked tell W zero here above T m = record { value = refl; errors = met-nothing tell above }
none-walked tell W (suc d) here above T m = record { value = refl; errors = met-nothing tell above }

-- the selections of one occurrence
one-below : (possible : Name → Name → Bool) (T : Name) (o : Occurrence) → occurrences possible T (all_below (o ∷ [])) ≡ occurrences possible T o.below
unfolding all_below occurrences
one-below possible T o = occurrences-chain possible T o.below end ∙ append-nil (occurrences possible T o.below)

entry-lost : (tell : Place → Place) (k : Name) (t : TypeRef) (u : Value) → (is_null u && required t) ≡ true → one_entry tell k t u ≡ null
unfolding one_entry
entry-lost tell k t u e = go (required t) (is_null u) e
  where
    go : (a b : Bool) → (b && a) ≡ true → cond (a && b) null (object (entry k u no_entries)) ≡ null
    go true true e = refl
    go true false e = cc
    go false true e = cc
    go false false e = cc

entry-kept : (tell : Place → Place) (k : Name) (t : TypeRef) (u : Value) → (is_null u && required t) ≡ false →
    one_entry tell k t u ≡ object (entry k u no_entries)
unfolding one_entry
entry-kept tell k t u e = go (required t) (is_null u) e
  where
    go : (a b : Bool) → (b && a) ≡ false → cond (a && b) null (object (entry k u no_entries)) ≡ object (entry k u no_entries)
    go true true e = cc
    go true false e = refl
    go false true e = refl
    go false false e = refl

-- where all of a list agree, so do parts of it
agree-part : {N : Type 0} (W : World N) (d : ℕ) (T : Name) (os ps : List Occurrence) → ((x : Occurrence) → In x ps → In x os) → Agree W (suc d) T os →
    Agree W (suc d) T ps
agree-part W d T os ps inside a = λ x y i j. a x y (inside x i) (inside y j)

in-front : (x o : Occurrence) (front rest : List Occurrence) → In x (front ++ o ∷ []) → In x (front ++ o ∷ rest)
in-front x o [] rest (inl e) = inl e
in-front x o [] rest (inr e) = absurd e
in-front x o (y ∷ front) rest (inl e) = inl e
in-front x o (y ∷ front) rest (inr i) = inr (in-front x o front rest i)

module _ (tell : Place → Place) {N : Type 0} (W : World N) (d : ℕ) (here above : Place) (T : Name) (m : N) (o : Occurrence) (deep : depth o.below ≤ d) where
  abbrev place : Place
  place = here ++ key (response_key o.head) ∷ []

  abbrev declared : TypeRef
  declared = type_of W T (o ∷ [])

  abbrev reply : Reply N
  reply = reply_of W T m (o ∷ [])

  -- one field alone
  field-walked : (vs : List Value) (ess : List (List Listed)) → AreWalkedAt tell W o.below (reply_node_spots W place declared reply) vs ess →
      (v : Value) → v ≡ (fill (reply_skeleton W declared reply) vs).value →
      base.Walked tell W (suc d) here above T m (o ∷ []) (one_entry tell (response_key o.head) declared v)
      (listed_apart W tell place o.head.span.start declared reply ++ all_listed ess)
  unfolding of_key key_failures key_standing starts_of
  field-walked vs ess w v is =
      let objects = reply-objects tell W d o.below deep place above declared reply vs ess w in
      let below : (U : Name) → occurrences W.possible U o.below ≡ occurrences W.possible U (all_below (o ∷ [])) = λ U. sym (one-below W.possible U o) in
      let value = reply-fills tell W _ _ _ place above declared reply vs ess objects in
      let met = reply-met tell W _ _ _ o.head.span.start place above declared reply vs ess objects in
      let path : (λ U. occurrences W.possible U o.below) ≡ (λ U. occurrences W.possible U (all_below (o ∷ []))) = λ i U. below U i in
      let same : finish W (λ U n. grouped W d U n (occurrences W.possible U o.below)) declared reply
      ≡ finish W (λ U n. grouped W d U n (occurrences W.possible U (all_below (o ∷ [])))) declared reply
      = ap (λ (F : Name → List Occurrence). finish W (λ U n. grouped W d U n (F U)) declared reply) path in
      let all = is ∙ (value ∙ same) in
      let listed = listed_apart W tell place o.head.span.start declared reply ++ all_listed ess in
      let moved = subst (λ (F : Name → List Occurrence). Met tell
      (is_null (finish W (λ U n. grouped W d U n (F U)) declared reply) && required declared) listed
      (reply_faults W (λ at to U n. failures W d at to U n (F U)) place (o.head.span.start ∷ []) above declared reply) above
      (reply_standing W (λ U n. grouped W d U n (F U)) (λ at U n. nulls W d at U n (F U)) place declared reply)) path met in
      walked-one tell W d here above T m o v listed all
      (subst (λ z. Met tell (is_null z && required declared) listed
      (reply_faults W (λ at to U n. failures W d at to U n (occurrences W.possible U (all_below (o ∷ [])))) place
      (o.head.span.start ∷ []) above declared reply) above
      (reply_standing W (λ U n. grouped W d U n (occurrences W.possible U (all_below (o ∷ []))))
      (λ at U n. nulls W d at U n (occurrences W.possible U (all_below (o ∷ [])))) place declared reply)) (sym all) moved)

pub one-more-walked : (tell : Place → Place) {N : Type 0} (W : World N) → OneMoreWalked tell W
one-more-walked tell W zero here above T m front rest o deep agrees es differ errors before vs ess walked v is more listed = absurd (omega (arith, deep))
one-more-walked tell W (suc d) here above T m front rest o deep agrees es differ errors before vs ess walked v is more listed =
    let t = type_of W T (o ∷ []) in
    let k = response_key o.head in
    let agree : Agree W (suc d) T (front ++ o ∷ []) = agree-part W d T (front ++ o ∷ rest) (front ++ o ∷ []) (λ x i. in-front x o front rest i) agrees in
    let at = here ++ key k ∷ [] in
    let apart = listed_spots tell o.head.span.start (reply_error_spots W at t (reply_of W T m (o ∷ []))) ++ all_listed ess in
    let alone = subst (λ z. base.Walked tell W (suc d) here above T m (o ∷ []) (one_entry tell k t v) (z ++ all_listed ess))
    (listed-reply tell W o.head.span.start at t (reply_of W T m (o ∷ [])))
    (field-walked tell W d here above T m o (omega (arith, deep)) vs ess walked v is) in
    let both = walked-join tell W (suc d) here above T m front (o ∷ []) (object es) (one_entry tell k t v) errors apart agree
    (to-base tell W (suc d) here above T m front (object es) errors before) alone in
    let joined' = subst (λ z. base.Walked tell W (suc d) here above T m (front ++ o ∷ []) (join (object es) (one_entry tell k t v)) z)
    (sym listed) both in (
      λ kept. from-base tell W (suc d) here above T m (front ++ o ∷ []) (object (joined_in k v es)) more
          (subst (λ z. base.Walked tell W (suc d) here above T m (front ++ o ∷ []) z more)
          (ap (join (object es)) (entry-kept tell k t v kept) ∙ join-one k v es differ) joined'),
      λ lost. let stopped : base.Walked tell W (suc d) here above T m (front ++ o ∷ []) null more = subst
          (λ z. base.Walked tell W (suc d) here above T m (front ++ o ∷ []) z more)
          (ap (join (object es)) (entry-lost tell k t v lost) ∙ join-null (object es)) joined' in
          let whole : (front ++ o ∷ []) ++ rest ≡ front ++ o ∷ rest = append_assoc front (o ∷ []) rest in
          from-base tell W (suc d) here above T m (front ++ o ∷ rest) null more
          (subst (λ z. base.Walked tell W (suc d) here above T m z null more) whole
          (walked-stop tell W (suc d) here above T m (front ++ o ∷ []) rest more (subst (λ z. Agree W (suc d) T z) (sym whole) agrees) stopped)),
    )

pub walk-answers : (tell : Place → Place) {N : Type 0} (W : World N) → WalkAnswers tell W
unfolding data_of failures_of nulls_of
walk-answers tell W T m s v es ds w same sorted = walks_answer tell W T m s v es ds w.value w.errors same sorted
