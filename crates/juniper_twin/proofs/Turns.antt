-- The turns of the walk: one field after the other, and one node after the other (6.3).
use Rattle.std.proofs.Common.{◌≡◌, ℕ, ◌≤◌, Bool, true, false, ◌&&◌, List, [], ◌∷◌, ◌++◌, refl, sym, ap, ◌∙◌, subst, arith}
use Rattle.std.proofs.lemmas.Bool.{and_parts, and_from}
use Rattle.graphql_spec.specs.Shown.{Name}
use Rattle.graphql_spec.specs.Documents.{response_key}
use Rattle.graphql_spec.specs.Values.{Value, Entries, null, object, no_entries, is_null, keys_differ}
use Rattle.graphql_spec.specs.Types.{TypeRef, required}
use Rattle.graphql_spec.specs.Errors.{Place, key, Listed}
use Rattle.graphql_spec.specs.ExactAnswers.{whole}
use Rattle.graphql_spec.specs.Selections.{Forest, depth, Occurrence, occurrences}
use Rattle.graphql_spec.specs.Resolvers.{Reply, World}
use Rattle.graphql_spec.specs.Execution.{type_of, reply_of}
use Rattle.graphql_spec.specs.Laws.{In, Agree}
use Rattle.graphql_spec.specs.Skeletons.{Spot, Skeleton, fill, listed_spots, reply_skeleton, reply_node_spots, reply_error_spots}
use Rattle.graphql_spec.specs.CompletionLaws.{all_listed}
use Rattle.graphql_spec.specs.Walks.{AreWalkedAt, IsWalked, IsWalkedAt, joined_in}
use Rattle.graphql_spec.proofs.FieldWalks.{none-walked, one-more-walked}
use Rattle.graphql_spec.proofs.Agreeing.{agrees-below}
use Rattle.juniper_assemble.specs.Keyed.{is_keyed, entries_keyed}
use Rattle.juniper_walk.proofs.Nodes.{listed-last}
use Rattle.juniper_walk.specs.Walking.{AllAgree}
use Rattle.juniper_twin.specs.Walking.{AreAllWalked, AreReached, IsAdded, IsPrepared, IsWalkedThrough, IsWalking, all_keyed, deepest}
use Rattle.juniper_twin.proofs.Depths.{deepest-of, in-all, shallower-than}

-- ## One field after the other

differ-of : (es : Entries) → is_keyed (object es) ≡ true → keys_differ es ≡ true
unfolding is_keyed
differ-of es k = (and_parts (keys_differ es) (entries_keyed es) k).0

pub null-is-keyed : is_keyed null ≡ true
unfolding is_keyed
null-is-keyed = refl

none-keyed : is_keyed (object no_entries) ≡ true
unfolding is_keyed keys_differ
none-keyed = refl

module _ {N : Type 0} (W : World N) (at : Place) (T : Name) (n : N) (all : List Occurrence) where
  pub start-walking : (front : List Occurrence) (es : Entries) (errors : List Listed) → front ≡ [] → es ≡ no_entries → errors ≡ [] →
      IsWalking W at T n all front es errors
  start-walking front es errors a b e = record {
    walked = λ d deep lands. rw (a, b, e) (none-walked whole W d at lands T n);
    keyed = rw b none-keyed;
  }

  module _ (agree : AllAgree W T all) (front rest : List Occurrence) (o : Occurrence) (split : all ≡ front ++ o ∷ rest) (es made : Entries)
      (errors more : List Listed) (walking : IsWalking W at T n all front es errors)
      (r : Bool) (s : Skeleton) (ns : List (Spot N)) (apart below : List Listed) (vs : List Value)
      (prepared : IsPrepared W at T n o r s ns apart) (nodes : AreAllWalked W o.below ns vs below)
      (rises : Bool) (added : IsAdded (response_key o.head) r s vs (apart ++ below) rises es made errors more) where
    abbrev place : Place
    place = at ++ key (response_key o.head) ∷ []

    abbrev declared : TypeRef
    declared = type_of W T (o ∷ [])

    abbrev reply : Reply N
    reply = reply_of W T n (o ∷ [])

    listed : more ≡ errors ++ (listed_spots whole o.head.span.start (reply_error_spots W place declared reply) ++ all_listed nodes.parts)
    listed = added.errors_are ∙ ap (λ l. errors ++ l) (ap (λ l. l ++ below) prepared.errors
        ∙ ap (λ l. listed_spots whole o.head.span.start (reply_error_spots W place declared reply) ++ l) nodes.listed)

    reached : AreWalkedAt whole W o.below (reply_node_spots W place declared reply) vs nodes.parts
    reached = subst (λ ms. AreWalkedAt whole W o.below ms vs nodes.parts) prepared.nodes nodes.walked

    abbrev value : Value
    value = (fill s vs).value

    value-is : value ≡ (fill (reply_skeleton W declared reply) vs).value
    value-is = ap (λ x. (fill x vs).value) prepared.skeleton

    abbrev more-walked : (d : ℕ) → deepest all ≤ d → (lands : Place) →
        ((is_null value && required declared) ≡ false →
        IsWalked whole W d at lands T n (front ++ o ∷ []) (object (joined_in (response_key o.head) value es)) more)
        × ((is_null value && required declared) ≡ true → IsWalked whole W d at lands T n (front ++ o ∷ rest) null more)
    more-walked d deep lands =
        let shallow = shallower-than all front rest o split in
        one-more-walked whole W d at lands T n front rest o (omega (arith, shallow, deep)) (subst (λ os. Agree W d T os) split (agree d)) es
        (differ-of es walking.keyed) errors (walking.walked d deep lands)
        vs nodes.parts reached value value-is more listed

    pub walking-on : (next : List Occurrence) → next ≡ front ++ o ∷ [] → rises ≡ false → IsWalking W at T n all next made more
    walking-on next is kept = record {
      walked = λ d deep lands.
          let kept_here : (is_null value && required declared)
          ≡ false = ap (λ b. is_null value && b) (sym prepared.non_null) ∙ (sym added.rising ∙ kept) in
          let w = (more-walked d deep lands).0 kept_here in
          subst (λ x. IsWalked whole W d at lands T n next (object x) more) (sym (added.put_in kept))
          (subst (λ os. IsWalked whole W d at lands T n os (object (joined_in (response_key o.head) value es)) more) (sym is) w);
      keyed = added.keyed kept;
    }

    pub walking-stops : rises ≡ true → IsWalkedThrough W at T n all null more
    walking-stops lost = record {
      walked = λ d deep lands.
          let lost_here : (is_null value && required declared)
          ≡ true = ap (λ b. is_null value && b) (sym prepared.non_null) ∙ (sym added.rising ∙ lost) in
          subst (λ os. IsWalked whole W d at lands T n os null more) (sym split) ((more-walked d deep lands).1 lost_here);
      keyed = null-is-keyed;
    }

  pub walking-ends : (front : List Occurrence) (es : Entries) (v : Value) (errors : List Listed) → front ≡ all → v ≡ object es →
      IsWalking W at T n all front es errors → IsWalkedThrough W at T n all v errors
  walking-ends front es v errors through is w = record {
    walked = λ d deep lands. subst (λ x. IsWalked whole W d at lands T n all x errors) (sym is)
        (subst (λ os. IsWalked whole W d at lands T n os (object es) errors) through (w.walked d deep lands));
    keyed = ap is_keyed is ∙ w.keyed;
  }

  -- what a field selects agrees for the nodes of its answer
  pub reached-agree : AllAgree W T all → (front rest : List Occurrence) (o : Occurrence) → all ≡ front ++ o ∷ rest →
      (r : Bool) (s : Skeleton) (ns : List (Spot N)) (es : List Listed) → IsPrepared W at T n o r s ns es →
      AreReached W ns o.below
  reached-agree agree front rest o split r s ns es prepared = λ x i d.
      agrees-below W T n all agree o (in-all all front rest o split) (at ++ key (response_key o.head) ∷ []) x (subst (λ ms. In x ms) prepared.nodes i) d

-- ## One node after the other

module _ {N : Type 0} (W : World N) (s : Forest) where
  -- the object of a node at its place for what its selections hold
  pub walked-at : (x : Spot N) (at : Place) (T : Name) (os : List Occurrence) (v : Value) (es : List Listed) → at ≡ x.place → T ≡ W.concrete x.what →
      os ≡ occurrences W.possible T s → IsWalkedThrough W at T x.what os v es → IsWalkedAt whole W s x v es
  walked-at x at T os v es placed named is w = λ lands.
      let deep : deepest os ≤ depth s = subst (λ l. deepest l ≤ depth s) (sym is) (deepest-of W.possible T s) in
      let here = w.walked (depth s) deep lands in
      subst (λ p. IsWalked whole W (depth s) p lands (W.concrete x.what) x.what (occurrences W.possible (W.concrete x.what) s) v es) placed
      (subst (λ U. IsWalked whole W (depth s) at lands U x.what (occurrences W.possible U s) v es) named
      (subst (λ l. IsWalked whole W (depth s) at lands T x.what l v es) is here))

  walked-last : (ns : List (Spot N)) (vs : List Value) (ess : List (List Listed)) (x : Spot N) (v : Value) (es : List Listed) →
      AreWalkedAt whole W s ns vs ess → IsWalkedAt whole W s x v es → AreWalkedAt whole W s (ns ++ x ∷ []) (vs ++ v ∷ []) (ess ++ es ∷ [])
  walked-last [] [] [] x v es a b = (b, tt)
  walked-last [] [] (fs ∷ ess) x v es a b = absurd a
  walked-last [] (u ∷ vs) ess x v es a b = absurd a
  walked-last (m ∷ ns) [] ess x v es a b = absurd a
  walked-last (m ∷ ns) (u ∷ vs) [] x v es a b = absurd a
  walked-last (m ∷ ns) (u ∷ vs) (fs ∷ ess) x v es a b = (a.0, walked-last ns vs ess x v es a.1 b)

  keyed-last : (vs : List Value) (v : Value) → all_keyed vs ≡ true → is_keyed v ≡ true → all_keyed (vs ++ v ∷ []) ≡ true
  unfolding all_keyed
  keyed-last [] v a b = and_from (is_keyed v) true b refl
  keyed-last (u ∷ vs) v a b = let p = and_parts (is_keyed u) (all_keyed vs) a in and_from (is_keyed u) (all_keyed (vs ++ v ∷ [])) p.0 (keyed-last vs v p.1 b)

  pub none-yet : (ns : List (Spot N)) (vs : List Value) (es : List Listed) → ns ≡ [] → vs ≡ [] → es ≡ [] → AreAllWalked W s ns vs es
  unfolding all_keyed all_listed
  none-yet ns vs es a b e = record { parts = []; walked = rw (a, b) tt; listed = e; keyed = rw b refl }

  pub one-more : (ns next : List (Spot N)) (vs more : List Value) (es further listed : List Listed) (x : Spot N) (v : Value) → AreAllWalked W s ns vs es →
      IsWalkedAt whole W s x v listed → is_keyed v ≡ true →
      next ≡ ns ++ x ∷ [] → more ≡ vs ++ v ∷ [] → further ≡ es ++ listed → AreAllWalked W s next more further
  one-more ns next vs more es further listed x v all one keyed a b e = record {
    parts = all.parts ++ listed ∷ [];
    walked = rw (a, b) (walked-last ns vs all.parts x v listed all.walked one);
    listed = e ∙ (ap (λ l. l ++ listed) all.listed ∙ sym (listed-last all.parts listed));
    keyed = rw b (keyed-last vs v all.keyed keyed);
  }

pub through-null : {N : Type 0} (W : World N) (at : Place) (T : Name) (n : N) (os : List Occurrence) (v : Value) (es : List Listed) → v ≡ null →
    IsWalkedThrough W at T n os null es → IsWalkedThrough W at T n os v es
through-null W at T n os v es e w = subst (λ x. IsWalkedThrough W at T n os x es) (sym e) w
