-- The rounds of the walk: a plan that is added to while an object's groups, and a group's nodes, are walked (6.3).
use Rattle.std.proofs.Common.{◌≡◌, ◌==◌, ℕ, zero, suc, ◌+◌, ◌*◌, ◌-◌, ◌≤◌, ◌<◌, Bool, true, false, List, [], ◌∷◌, ◌++◌, length, take, refl, sym, ap, ◌∙◌, subst}
use Rattle.std.proofs.Common.{arith}
use Rattle.std.proofs.lemmas.Bool.{eqb-true}
use Rattle.graphql_spec.specs.Shown.{Shown, Name}
use Rattle.graphql_spec.specs.Documents.{Head}
use Rattle.graphql_spec.specs.Values.{Value, Entries, null, object}
use Rattle.graphql_spec.specs.Errors.{Place, Listed}
use Rattle.graphql_spec.specs.ExactAnswers.{whole}
use Rattle.graphql_spec.specs.GroupLaws.{first_start}
use Rattle.graphql_spec.specs.Selections.{Forest, depth, Occurrence, all_below, keys, occurrences, with_key}
use Rattle.graphql_spec.specs.Resolvers.{World}
use Rattle.graphql_spec.proofs.Lists.{IsMore}
use Rattle.graphql_spec.specs.Skeletons.{Spot, Skeleton}
use Rattle.graphql_spec.specs.NodeLaws.{AreWalkedOnce}
use Rattle.juniper_lookahead.specs.Collected.{view_all}
use Rattle.juniper_lookahead.specs.declared.collecting.Collector.{Collector}
use Rattle.juniper_walk.specs.declared.plan.GroupRange.{GroupRange}
use Rattle.juniper_walk.specs.declared.plan.Plan.{Plan}
use Rattle.juniper_walk.specs.PlanWalks.{AreObjectsWalked, IsGroupOf, IsObjectWalked, IsPrepared, IsPut, IsWalking}
use Rattle.juniper_walk.specs.Rows.{IsNext}
use Rattle.juniper_walk.specs.Plans.{IsAskedAt, IsMade, IsStanding, IsStep, StandsFor, fields_at, key_at}
use Rattle.juniper_walk.proofs.Depths.{group-shallower}
use Rattle.juniper_walk.proofs.Keys.{key-has-one}
use Rattle.juniper_walk.proofs.Standing.{IsPlaced, asked-at, fields-kept, grown-none, grown-twice, longer, placed, range-length, stands-still}
use Rattle.juniper_walk.proofs.Turns.{through-null, walking-ends, walking-on, walking-stops}
use Rattle.juniper_walk.proofs.Waiting.{walked-append}

cons-head : {A : Type 0} (x y : A) (xs ys : List A) → x ∷ xs ≡ y ∷ ys → x ≡ y
cons-head x y xs ys e = cc

cons-tail : {A : Type 0} (x y : A) (xs ys : List A) → x ∷ xs ≡ y ∷ ys → xs ≡ ys
cons-tail x y xs ys e = cc

pub take-next : {A : Type 0} (ks : List A) (n : ℕ) (k : A) (rest : List A) → ks ≡ take n ks ++ k ∷ rest → take (suc n) ks ≡ take n ks ++ k ∷ []
take-next [] zero k rest e = absurd cc
take-next (j ∷ js) zero k rest e = ap (λ x. x ∷ []) (cons-head j k js rest e)
take-next [] (suc n) k rest e = absurd cc
take-next (j ∷ js) (suc n) k rest e = ap (λ l. j ∷ l) (take-next js n k rest (cons-tail j j js (take n js ++ k ∷ rest) e))

pub take-none : {A : Type 0} (ks : List A) (n : ℕ) → n ≡ 0 → take n ks ≡ []
take-none ks zero e = refl
take-none ks (suc n) e = absurd (omega (arith, e))

pub take-past : {A : Type 0} (ks : List A) (n : ℕ) → length ks ≤ n → take n ks ≡ ks
take-past [] zero past = refl
take-past [] (suc n) past = refl
take-past (k ∷ ks) zero past = absurd (omega (arith, past))
take-past (k ∷ ks) (suc n) past = ap (λ l. k ∷ l) (take-past ks n (omega (arith, past)))

pub no-items : {A : Type 0} (xs : List A) (b : Bool) → b ≡ (length xs == 0) → b ≡ true → xs ≡ []
no-items [] b is yes_so = refl
no-items (x ∷ xs) b is yes_so = let e : suc (length xs) ≡ 0 = eqb-true (suc (length xs)) 0 (sym is ∙ yes_so) in absurd (omega (arith, e))

module _ {S P Q : Type 0} (shown : S → Shown) (c : Collector S P) (asks : Name → Head → Q → Type 0) (possible : Name → Name → Bool) where
  pub no-step : (p : Plan S Q) → IsStanding shown c asks possible p → IsStep shown c asks possible p p
  no-step p s = record { standing = s; grown = grown-none p p refl refl refl (omega arith) }

  pub more-steps : (p q r : Plan S Q) → IsStep shown c asks possible p q → IsStep shown c asks possible q r → IsStep shown c asks possible p r
  more-steps p q r a b = record { standing = b.standing; grown = grown-twice p q r a.grown b.grown }

  group-of : (p : Plan S Q) (i n : ℕ) (os : List Occurrence) → IsPlaced shown c p i n os → IsGroupOf (key_at p i) os (view_all shown c (fields_at p i))
  group-of p i n os at = let (first, others, some) = key-has-one os (take n (keys os)) at.rest (key_at p i) at.split in
      record { first = first; others = others; some = at.fields ∙ some; whole = at.fields }

  -- what stands for an object still does
  pub still-stands : (p q : Plan S Q) (r : GroupRange) (T : Name) (s : Forest) → IsStanding shown c asks possible p →
      StandsFor shown c asks T p r (occurrences possible T s) → IsStep shown c asks possible p q → StandsFor shown c asks T q r (occurrences possible T s)
  still-stands p q r T s standing stands step = stands-still shown c asks T p q r (occurrences possible T s) standing.within standing.asked step.grown stands

  -- ## A group of an object

  module _ (p q : Plan S Q) (r : GroupRange) (T : Name) (s : Forest) (standing : IsStanding shown c asks possible p)
      (stands : StandsFor shown c asks T p r (occurrences possible T s)) (step : IsStep shown c asks possible p q) (i : ℕ) (low : r.first.0 ≤ i)
      (high : i < r.end.0) where
    abbrev os : List Occurrence
    os = occurrences possible T s

    still : StandsFor shown c asks T q r os
    still = still-stands p q r T s standing stands step

    at-group : IsPlaced shown c q i (i - r.first.0) os
    at-group = placed shown c asks T q r os i (i - r.first.0) still low high refl

    pub group-bound : i < length q.groups.items
    group-bound = let long = longer p q step.grown in omega (arith, long, high, stands.inside)

    pub group-is : IsGroupOf (key_at q i) os (view_all shown c (fields_at q i))
    group-is = group-of q i (i - r.first.0) os at-group

    pub group-asked : IsAskedAt asks T q i (view_all shown c (fields_at q i))
    group-asked = asked-at shown c asks T q r os i (i - r.first.0) still low high refl step.standing.asked

    pub group-falls : 3 * depth (all_below (view_all shown c (fields_at q i))) + 2 < 3 * depth s
    group-falls =
        let more : IsMore (with_key (key_at q i) os) = key-has-one os (take (i - r.first.0) (keys os)) at-group.rest (key_at q i) at-group.split in
        let less : depth (all_below (with_key (key_at q i) os)) < depth s = group-shallower possible T s (key_at q i) more in
        let same : depth (all_below (view_all shown c (fields_at q i))) ≡ depth (all_below (with_key (key_at q i) os)) =
        ap (λ l. depth (all_below l)) at-group.fields in
        omega (arith, less, same)

    pub group-next : {N : Type 0} (W : World N) → possible ≡ W.possible →
        IsNext W s T (take (i - r.first.0) (keys (occurrences W.possible T s))) (key_at q i) (view_all shown c (fields_at q i))
    group-next W e =
        let same : os ≡ occurrences W.possible T s = ap (λ f. occurrences f T s) e in
        record {
          rest = at-group.rest;
          split = subst (λ l. keys l ≡ take (i - r.first.0) (keys l) ++ key_at q i ∷ at-group.rest) same at-group.split;
          whole = at-group.fields ∙ ap (with_key (key_at q i)) same;
        }

    pub next-keys : {N : Type 0} (W : World N) → possible ≡ W.possible → take (i + 1 - r.first.0) (keys (occurrences W.possible T s))
        ≡ take (i - r.first.0) (keys (occurrences W.possible T s)) ++ key_at q i ∷ []
    next-keys W e =
        let next = group-next W e in
        ap (λ x. take x (keys (occurrences W.possible T s))) {x = i + 1 - r.first.0} {y = suc (i - r.first.0)} (omega (arith, low))
        ∙ take-next (keys (occurrences W.possible T s)) (i - r.first.0) (key_at q i) next.rest next.split

    module _ {N : Type 0} (W : World N) (possible_is : possible ≡ W.possible) (at : Place) (m : N) (es made : Entries) (errors more : List Listed)
        (walking : IsWalking W at T m (occurrences W.possible T s) (take (i - r.first.0) (keys (occurrences W.possible T s))) es errors)
        (key_is : Name) (q_is : Bool) (k : Skeleton) (ns ms : List (Spot N)) (apart below : List Listed) (vs : List Value)
        (prepared : IsPrepared W at T m (key_at q i) (view_all shown c (fields_at q i)) key_is q_is k ns apart) (same_nodes : ms ≡ ns)
        (nodes : AreObjectsWalked W (all_below (view_all shown c (fields_at q i))) ms vs below)
        (rises : Bool) (put_in : IsPut key_is q_is k vs (apart ++ below) rises es made errors more) where
      abbrev ws : List Occurrence
      ws = occurrences W.possible T s

      same_os : os ≡ ws
      same_os = ap (λ f. occurrences f T s) possible_is

      abbrev n : ℕ
      n = i - r.first.0

      split : keys ws ≡ take n (keys ws) ++ key_at q i ∷ at-group.rest
      split = subst (λ l. keys l ≡ take n (keys l) ++ key_at q i ∷ at-group.rest) same_os at-group.split

      fields_are : view_all shown c (fields_at q i) ≡ with_key (key_at q i) ws
      fields_are = at-group.fields ∙ ap (with_key (key_at q i)) same_os

      prepared_here : IsPrepared W at T m (key_at q i) (with_key (key_at q i) ws) key_is q_is k ns apart
      prepared_here = subst (λ l. IsPrepared W at T m (key_at q i) l key_is q_is k ns apart) fields_are prepared

      nodes_here : AreObjectsWalked W (all_below (with_key (key_at q i) ws)) ns vs below
      nodes_here = subst (λ x. AreObjectsWalked W (all_below (with_key (key_at q i) ws)) x vs below) same_nodes
          (subst (λ l. AreObjectsWalked W (all_below l) ms vs below) fields_are nodes)

      pub group-walked : rises ≡ false → IsWalking W at T m ws (take (i + 1 - r.first.0) (keys ws)) made more
      group-walked kept =
          let next : take (i + 1 - r.first.0) (keys ws) ≡ take n (keys ws) ++ key_at q i ∷ [] =
          ap (λ x. take x (keys ws)) {x = i + 1 - r.first.0} {y = suc n} (omega (arith, low)) ∙ take-next (keys ws) n (key_at q i) at-group.rest split in
          walking-on W at T m ws (take n (keys ws)) at-group.rest (key_at q i) split es made errors more walking key_is q_is k ns apart below vs prepared_here
          nodes_here rises put_in (take (i + 1 - r.first.0) (keys ws)) next kept

      pub group-stops : (v : Value) → v ≡ null → rises ≡ true → IsObjectWalked W at s T m v more
      group-stops v is lost = through-null W at s T m v more is
          (walking-stops W at T m ws (take n (keys ws)) at-group.rest (key_at q i) split es made errors more walking key_is q_is k ns apart below vs
          prepared_here nodes_here rises put_in s refl lost)

  -- all groups of an object
  pub groups-walked : (p : Plan S Q) (r : GroupRange) (T : Name) (s : Forest) → StandsFor shown c asks T p r (occurrences possible T s) → (i : ℕ) → r.end.0 ≤ i
      → {N : Type 0} (W : World N) → possible ≡ W.possible → (at : Place) (m : N) (es : Entries) (v : Value) (errors : List Listed) → v ≡ object es
      → IsWalking W at T m (occurrences W.possible T s) (take (i - r.first.0) (keys (occurrences W.possible T s))) es errors
      → IsObjectWalked W at s T m v errors
  groups-walked p r T s stands i past W possible_is at m es v errors is walking =
      let ws = occurrences W.possible T s in
      let n : length (keys ws) ≡ r.end.0 - r.first.0 = sym (ap (λ f. length (keys (occurrences f T s))) possible_is)
      ∙ range-length shown c asks T p r (occurrences possible T s) stands in
      walking-ends W at T m ws s refl (take (i - r.first.0) (keys ws)) (take-past (keys ws) (i - r.first.0) (omega (arith, n, past))) es v errors is walking

  pub all-keys : (p : Plan S Q) (r : GroupRange) (T : Name) (s : Forest) → StandsFor shown c asks T p r (occurrences possible T s) → (i : ℕ) → r.end.0 ≤ i
      → {N : Type 0} (W : World N) → possible ≡ W.possible →
      take (i - r.first.0) (keys (occurrences W.possible T s)) ≡ keys (occurrences possible T s)
  all-keys p r T s stands i past W possible_is =
      let ws = occurrences W.possible T s in
      let n : length (keys ws) ≡ r.end.0 - r.first.0 = sym (ap (λ f. length (keys (occurrences f T s))) possible_is)
      ∙ range-length shown c asks T p r (occurrences possible T s) stands in
      take-past (keys ws) (i - r.first.0) (omega (arith, n, past)) ∙ ap (λ f. keys (occurrences f T s)) (sym possible_is)

  -- ## A node of a group

  module _ (p q : Plan S Q) (i : ℕ) (standing : IsStanding shown c asks possible p) (bound : i < length p.groups.items)
      (step : IsStep shown c asks possible p q)
      (s : Forest)
      (selected : s ≡ all_below (view_all shown c (fields_at p i))) where
    pub still-selected : s ≡ all_below (view_all shown c (fields_at q i))
    still-selected = selected ∙ ap (λ l. all_below (view_all shown c l)) (sym (fields-kept p q step.grown i bound standing.within))

    pub still-bound : i < length q.groups.items
    still-bound = let long = longer p q step.grown in omega (arith, long, bound)

    pub node-falls : 3 * depth s + 1 < 3 * depth (all_below (view_all shown c (fields_at p i))) + 2
    node-falls = let same = ap depth selected in omega (arith, same)

    pub step-made : (r : Plan S Q) (T : Name) (held : List Occurrence) (g : GroupRange) → IsMade shown c asks possible T held q r g
        → IsStep shown c asks possible p r
    step-made r T held g made = record { standing = made.standing; grown = grown-twice p q r step.grown made.grown }

    pub run-walked : {N : Type 0} (W : World N) (ns ms all : List (Spot N)) (vs us more : List Value) (ess fss further : List (List Listed)) →
        AreWalkedOnce whole first_start W (all_below (view_all shown c (fields_at p i))) ns vs ess → AreWalkedOnce whole first_start W s ms us fss →
        all ≡ ns ++ ms → more ≡ vs ++ us → further ≡ ess ++ fss →
        AreWalkedOnce whole first_start W (all_below (view_all shown c (fields_at p i))) all more further
    run-walked W ns ms all vs us more ess fss further a b d e f = rw (d, e, f)
        (walked-append W (all_below (view_all shown c (fields_at p i))) ns ms vs us ess fss a
        (subst (λ x. AreWalkedOnce whole first_start W x ms us fss) selected b))
