-- One root group of a plan after the other (6.2.2).
use Rattle.std.proofs.Common.{◌≡◌, ℕ, Bool, ◌+◌, ◌-◌, ◌<◌, ◌≤◌, true, false, List, [], ◌∷◌, ◌++◌, drop, length, take, Result, Ok, Err, refl, sym, ap, ◌∙◌, inl, inr}
use Rattle.std.proofs.Common.{subst, arith}
use Rattle.graphql_spec.specs.Shown.{Name, Shown}
use Rattle.graphql_spec.specs.Errors.{Listed}
use Rattle.graphql_spec.specs.ExactAnswers.{whole}
use Rattle.graphql_spec.specs.Fields.{is_possible}
use Rattle.graphql_spec.specs.Positions.{Position}
use Rattle.graphql_spec.specs.Mutation.{IsLeft, Mutation, root_fields, step_of}
use Rattle.graphql_spec.specs.MutationLaws.{HasRun}
use Rattle.graphql_spec.specs.Schema.{Schema}
use Rattle.graphql_spec.specs.Selections.{Forest, Occurrence, keys, occurrences, with_key}
use Rattle.graphql_spec.specs.Values.{Entries, Value, no_entries, null, object, put}
use Rattle.graphql_spec.proofs.Running.{may-stop-at, none-ran, one-more-ran}
use Rattle.juniper_lookahead.specs.Collected.{expansion, view_all}
use Rattle.juniper_lookahead.specs.declared.collecting.Collector.{Collector}
use Rattle.juniper_lookahead.specs.declared.occurrences.Enclosing.{Enclosing}
use Rattle.juniper_walk.specs.Entered.{own_fields}
use Rattle.juniper_walk.specs.declared.plan.GroupRange.{GroupRange}
use Rattle.juniper_walk.specs.declared.plan.Plan.{Plan}
use Rattle.juniper_walk.specs.PlanWalks.{IsGroupOf}
use Rattle.juniper_walk.specs.Plans.{IsAskedAt, IsGrown, IsMade, StandsFor, all_expanded, fields_at, key_at}
use Rattle.juniper_walk.proofs.Elsewhere.{standing-elsewhere, stands-elsewhere}
use Rattle.juniper_walk.proofs.RootRounds.{round-asked, round-bound, round-group, round-next, round-split, rounds-end}
use Rattle.juniper_walk.proofs.Sorted.{one-enclosing}
use Rattle.juniper_walk.proofs.Standing.{stands-still}
use Rattle.std.proofs.lemmas.List.{append-nil, append_assoc, take-append-drop}
use Rattle.std.specs.Result.{IsErr, MatchResult}
use Rattle.juniper_execute.proofs.Entering.{cut-front}
use Rattle.juniper_execute.specs.Entered.{entered_group, entered_groups, entered_run}
use Rattle.juniper_execute.specs.RootFields.{IsRootPlan, IsRootStep, all_fields, asks_in, collector_in, selected_in}
use Rattle.juniper_execute.specs.Stepping.{GroupRan, GroupStopped}
use Rattle.juniper_execute.specs.declared.question.Question.{Question}
use Rattle.juniper_execute.specs.declared.root_walk.RootWalk.{RootWalk}

-- a number within a range
pub before-end : (r : GroupRange) (i n : ℕ) → r.end.0 ≡ n → i < n → i < r.end.0
before-end r i n is below = omega (arith, is, below)

pub past-end : (r : GroupRange) (i n : ℕ) → r.end.0 ≡ n → n ≤ i → r.end.0 ≤ i
past-end r i n is past = omega (arith, is, past)

-- a plan that nothing was added to
pub still : {S Q : Type 0} (p : Plan S Q) → IsGrown p p
still p = record {
  more_groups = [];
  more_occurrences = [];
  more_questions = [];
  groups = sym (append-nil p.groups.items);
  occurrences = sym (append-nil p.occurrences.items);
  questions = sym (append-nil p.questions.items);
  left = omega arith;
}

-- what the operation selects stands alone around its root's fields
pub root-expanded : {A S : Type 0} (shown : S → Shown) (w : RootWalk A S) (e : Enclosing S) → e.selections.now ≡ w.selections.now →
    all_expanded shown (collector_in shown w) (e ∷ []) ≡ selected_in shown w
unfolding expansion
root-expanded shown w e same = one-enclosing shown (collector_in shown w) e ∙ rw same refl

-- the plan stands for the fields, and the groups before the i-th of them ran
pub record RanPlan {C N A S : Type 0} (M : Mutation C N) (pick : List Position → List Position) (shown : S → Shown) (w : RootWalk A S) (s : Schema)
    (r : GroupRange) (c : C) (i : ℕ) (p : Plan S (Question S)) (es : Entries) (errors : List Listed) (now : C) : Type 0 where
  pub low : r.first.0 ≤ i
  pub standing : IsRootPlan shown w s p
  pub stands : StandsFor shown (collector_in shown w) (asks_in shown w s) w.concrete.now p r (all_fields shown w s)
  pub ran : HasRun whole pick M w.concrete.now (take (i - r.first.0) (keys (all_fields shown w s))) (all_fields shown w s) c (object es) errors now

module _ {C N A S : Type 0} (M : Mutation C N) (pick : List Position → List Position) (shown : S → Shown) (w : RootWalk A S) (s : Schema) (r : GroupRange)
    (c : C) where
  abbrev os : List Occurrence
  os = all_fields shown w s

  pub plan-begins : {P : Type 0} (d : Collector S P) (f : d.fragments.now ≡ w.fragments.now) (v : d.variables.now ≡ w.variables.now) (e : Enclosing S)
      (p q : Plan S (Question S)) (es : Entries) (errors : List Listed) → e.selections.now ≡ w.selections.now →
      IsMade shown d (asks_in shown w s) (is_possible s) w.concrete.now (occurrences (is_possible s) w.concrete.now (all_expanded shown d (e ∷ []))) p q r →
      es ≡ no_entries → errors ≡ [] → RanPlan M pick shown w s r c r.first.0 q es errors c
  unfolding expansion
  plan-begins d f v e p q es errors same made a b =
      let expanded : all_expanded shown d (e ∷ []) ≡ selected_in shown w = one-enclosing shown d e ∙ rw (f, v, same) refl in
      record {
        low = omega arith;
        standing = standing-elsewhere shown d (collector_in shown w) f v (asks_in shown w s) (is_possible s) q made.standing;
        stands = subst (λ x. StandsFor shown (collector_in shown w) (asks_in shown w s) w.concrete.now q r (occurrences (is_possible s) w.concrete.now x))
            expanded
            (stands-elsewhere shown d (collector_in shown w) f v (asks_in shown w s) w.concrete.now q r _ made.stands);
        ran = subst (λ (n : ℕ). HasRun whole pick M w.concrete.now (take n (keys os)) os c (object es) errors c)
            {x = 0} {y = r.first.0 - r.first.0} (omega arith) (rw (a, b) (none-ran M w.concrete.now whole pick os c));
      }

  module _ (i : ℕ) (p : Plan S (Question S)) (es : Entries) (errors : List Listed) (now : C) (at : RanPlan M pick shown w s r c i p es errors now) where
    step : IsRootStep shown w s p p
    step = record { standing = at.standing; grown = still p }

    pub plan-ends : r.end.0 ≤ i → HasRun whole pick M w.concrete.now (keys os) os c (object es) errors now
    plan-ends past = subst (λ (l : List Name). HasRun whole pick M w.concrete.now l os c (object es) errors now)
        (rounds-end shown (collector_in shown w) (asks_in shown w s) (is_possible s) p p w.concrete.now r os at.standing at.stands step i at.low past) at.ran

    module _ (high : i < r.end.0) where
      pub plan-bound : i < length p.groups.items
      plan-bound = round-bound shown (collector_in shown w) (asks_in shown w s) (is_possible s) p p w.concrete.now r os at.standing at.stands step i at.low high

      pub plan-group : IsGroupOf (key_at p i) os (view_all shown (collector_in shown w) (fields_at p i))
      plan-group = round-group shown (collector_in shown w) (asks_in shown w s) (is_possible s) p p w.concrete.now r os at.standing at.stands step i at.low high

      pub plan-asked : IsAskedAt (asks_in shown w s) w.concrete.now p i (view_all shown (collector_in shown w) (fields_at p i))
      plan-asked = round-asked shown (collector_in shown w) (asks_in shown w s) (is_possible s) p p w.concrete.now r os at.standing at.stands step i at.low high

      split : (rest : List Name) × (keys os ≡ take (i - r.first.0) (keys os) ++ key_at p i ∷ rest)
      split = round-split shown (collector_in shown w) (asks_in shown w s) (is_possible s) p p w.concrete.now r os at.standing at.stands step i at.low high

      abbrev k : Name
      k = key_at p i

      abbrev done : List Name
      done = take (i - r.first.0) (keys os)

      pub plan-kept : (q : Plan S (Question S)) → IsRootStep shown w s p q → (put_in : Entries) (listed : List Listed) (after : C) →
          GroupRan M w.concrete.now pick k os now es errors false put_in listed after → RanPlan M pick shown w s r c (i + 1) q put_in listed after
      plan-kept q grown put_in listed after g =
          let next = one-more-ran M w.concrete.now whole pick done split.0 k os split.1 c now es errors at.ran g.value g.more g.completed in
          let one = next.0 (sym g.loses) in
          let low = at.low in
          record {
            low = omega (arith, low);
            standing = grown.standing;
            stands = stands-still shown (collector_in shown w) (asks_in shown w s) w.concrete.now p q r os at.standing.within at.standing.asked grown.grown
                at.stands;
            ran = subst (λ l. HasRun whole pick M w.concrete.now l os c (object put_in) listed after)
                (sym (round-next shown (collector_in shown w) (asks_in shown w s) (is_possible s) p p w.concrete.now r os at.standing at.stands step i at.low
                high))
                (subst (λ z. HasRun whole pick M w.concrete.now (done ++ k ∷ []) os c (object z) listed after) (sym g.puts)
                (subst (λ z. HasRun whole pick M w.concrete.now (done ++ k ∷ []) os c (object (put k g.value es)) z after) (sym g.lists)
                (subst (λ z. HasRun whole pick M w.concrete.now (done ++ k ∷ []) os c (object (put k g.value es)) (errors ++ g.more) z)
                (sym g.context) one)));
          }

      pub plan-lost : (put_in : Entries) (listed : List Listed) (after : C) →
          GroupRan M w.concrete.now pick k os now es errors true put_in listed after →
          HasRun whole pick M w.concrete.now (keys os) os c null listed after
      plan-lost put_in listed after g =
          let next = one-more-ran M w.concrete.now whole pick done split.0 k os split.1 c now es errors at.ran g.value g.more g.completed in
          let one = next.1 (sym g.loses) in
          subst (λ l. HasRun whole pick M w.concrete.now l os c null listed after) (sym split.1)
          (subst (λ z. HasRun whole pick M w.concrete.now (done ++ k ∷ split.0) os c null z after) (sym g.lists)
          (subst (λ z. HasRun whole pick M w.concrete.now (done ++ k ∷ split.0) os c null (errors ++ g.more) z) (sym g.context) one))

      -- the groups that are left are this one, and those behind it
      rest-splits : drop (i - r.first.0) (keys os) ≡ k ∷ drop (i + 1 - r.first.0) (keys os)
      rest-splits =
          let longer = round-next shown (collector_in shown w) (asks_in shown w s) (is_possible s) p p w.concrete.now r os at.standing at.stands step i at.low
          high in
          let here = cut-front done (drop (i - r.first.0) (keys os)) (k ∷ split.0) (take-append-drop (i - r.first.0) (keys os) ∙ split.1) in
          let behind = cut-front (done ++ k ∷ []) (drop (i + 1 - r.first.0) (keys os)) split.0
          (subst (λ l. l ++ drop (i + 1 - r.first.0) (keys os) ≡ keys os) longer (take-append-drop (i + 1 - r.first.0) (keys os))
          ∙ (split.1 ∙ sym (append_assoc done (k ∷ []) split.0))) in
          here ∙ ap (λ (l : List Name). k ∷ l) (sym behind)

      -- what they enter
      pub rest-enters : (after : C) → after ≡ (step_of M w.concrete.now now (with_key k os)).0 →
          entered_groups M w.concrete.now (drop (i - r.first.0) (keys os)) os now
          ≡ entered_group M w.concrete.now now (view_all shown (collector_in shown w) (fields_at p i))
          + entered_groups M w.concrete.now (drop (i + 1 - r.first.0) (keys os)) os after
      unfolding entered_groups
      rest-enters after stepped =
          let T = w.concrete.now in
          let later = drop (i + 1 - r.first.0) (keys os) in
          let parts : entered_groups M T (k ∷ later) os now
          ≡ entered_group M T now (with_key k os) + entered_groups M T later os (step_of M T now (with_key k os)).0 = refl in
          let whole = ap (λ (l : List Name). entered_groups M T l os now) rest-splits in
          let group = ap (entered_group M T now) plan-group.whole in
          let next = ap (entered_groups M T later os) stepped in
          omega (arith, parts, whole, group, next)

      pub plan-stopped : (after : C) → GroupStopped M w.concrete.now (with_key k os) now after → IsLeft M w.concrete.now (keys os) os c after
      plan-stopped after g =
          let stop = may-stop-at M w.concrete.now whole pick done split.0 k os c now es errors at.ran in
          let here : IsLeft M w.concrete.now (done ++ k ∷ split.0) os c after = elim g [
            | inl e ↦ subst (λ z. IsLeft M w.concrete.now (done ++ k ∷ split.0) os c z) (sym e) stop.0
            | inr t ↦ elim t [
              | inl torn ↦ stop.1 after torn
              | inr e ↦ subst (λ z. IsLeft M w.concrete.now (done ++ k ∷ split.0) os c z) (sym e) stop.2
            ]
          ] in
          subst (λ l. IsLeft M w.concrete.now l os c after) (sym split.1) here

-- nothing has run, and the root's fields were taken off
pub entering-begins : {C N : Type 0} (M : Mutation C N) (T : Name) (s : Forest) (c : C) (os : List Occurrence) → os ≡ root_fields M T s c → (i : ℕ) →
    (possible : Name → Name → Bool) → possible ≡ (M.world c).possible → (expanded : Forest) → expanded ≡ s → (base left : ℕ) →
    base ≤ left + own_fields possible T expanded → base + entered_groups M T (drop (i - i) (keys os)) os c ≤ left + entered_run M T s c
unfolding entered_run
entering-begins M T s c os is i possible same expanded all base left fits =
    let none : drop (i - i) (keys os) ≡ keys os = subst (λ (n : ℕ). drop n (keys os) ≡ keys os) {x = 0} {y = i - i} (omega arith) refl in
    let groups = ap (λ (l : List Name). entered_groups M T l os c) none ∙ ap (λ (l : List Occurrence). entered_groups M T (keys l) l c) is in
    let own = ap (λ f. own_fields f T expanded) same ∙ ap (own_fields (M.world c).possible T) all in
    omega (arith, groups, own, fits)

-- the root's fields alone spent it
pub own-spends : {C N : Type 0} (M : Mutation C N) (T : Name) (s : Forest) (c : C) (possible : Name → Name → Bool) → possible ≡ (M.world c).possible →
    (expanded : Forest) → expanded ≡ s → (base : ℕ) → base < own_fields possible T expanded → base < entered_run M T s c
unfolding entered_run
own-spends M T s c possible same expanded all base less =
    let own = ap (λ f. own_fields f T expanded) same ∙ ap (own_fields (M.world c).possible T) all in
    omega (arith, own, less)

-- where nothing has run the context is as it was
pub left-same : {C N : Type 0} (M : Mutation C N) (T : Name) (ks : List Name) (os : List Occurrence) (c : C) → IsLeft M T ks os c c
left-same M T [] all c = refl
left-same M T (k ∷ ks) all c = inl refl

-- where memory was wanting, what holds of it
pub on-err : {A E : Type 0} (Q : A → Type 0) (P : Type 0) (r : Result A E) → IsErr r → P → MatchResult r Q (λ e. P)
on-err Q P (Ok a) f p = cc
on-err Q P (Err e) f p = p

-- a run by another name for its value
pub plan-moves : {C N : Type 0} (M : Mutation C N) (pick : List Position → List Position) (T : Name) (ks : List Name) (os : List Occurrence) (c : C)
    (v w : Value) (es : List Listed) (now : C) → w ≡ v → HasRun whole pick M T ks os c v es now → HasRun whole pick M T ks os c w es now
plan-moves M pick T ks os c v w es now e r = subst (λ x. HasRun whole pick M T ks os c x es now) (sym e) r
