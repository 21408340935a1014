-- What was walked of a request and then sorted is an answer to it (6.2, 7.1.2).
use Rattle.std.proofs.Common.{◌≡◌, ℕ, Bool, true, List, [], ◌∷◌, IsTrue, length, map, refl, sym, ap, ◌∙◌, subst, arith}
use Rattle.graphql_spec.specs.Shown.{Name, Shown}
use Rattle.graphql_spec.specs.Documents.{Head}
use Rattle.graphql_spec.specs.Values.{Value, is_null}
use Rattle.graphql_spec.specs.Errors.{Place, Listed, is_sorted}
use Rattle.graphql_spec.specs.ExactAnswers.{IsExactAnswerFor, whole}
use Rattle.graphql_spec.specs.Failures.{Failure, failures_of}
use Rattle.graphql_spec.specs.Nulls.{nulls_of}
use Rattle.graphql_spec.specs.GroupLaws.{for_picked, first_start}
use Rattle.graphql_spec.specs.Laws.{In}
use Rattle.graphql_spec.specs.Resolvers.{World}
use Rattle.graphql_spec.specs.Selections.{Forest}
use Rattle.graphql_spec.specs.Walk.{Met, count_listed, told}
use Rattle.graphql_spec.proofs.Answered.{counts_listed, listed_counts, same_listed}
use Rattle.graphql_spec.proofs.Exact.{walks-exact-answer}
use Rattle.juniper_syntax.specs.DocumentView.{view_selections}
use Rattle.juniper_lookahead.specs.Collected.{expansion}
use Rattle.juniper_lookahead.specs.declared.collecting.Collector.{Collector}
use Rattle.juniper_lookahead.specs.declared.occurrences.Enclosing.{Enclosing}
use Rattle.juniper_walk.specs.declared.plan.Plan.{Plan}
use Rattle.juniper_walk.specs.Plans.{AllRight, AreWithin, IsBare, IsStanding, all_expanded}
use Rattle.juniper_walk.specs.PlanWalks.{IsFirstsAnswer, IsObjectWalked}
use Rattle.juniper_walk.proofs.Enclosed.{chain-end}

none-counts : (es : List Listed) → count_listed (λ x. true) es ≡ 0 → es ≡ []
unfolding count_listed
none-counts [] e = refl
none-counts (x ∷ es) e = absurd (omega (arith, e))

none-listed : (es : List Listed) → es ≡ [] → count_listed (λ x. true) es ≡ 0
unfolding count_listed
none-listed [] e = refl
none-listed (x ∷ es) e = absurd cc

moved : (es ds : List Listed) → ((p : Listed → Bool) → count_listed p ds ≡ count_listed p es) → (x : Listed) → In x es → In x ds
moved es ds same x i = let a = listed_counts x es i in let b = same (same_listed x) in counts_listed x ds (omega (arith, a, b))

-- the same errors in another order meet the same failures
pub met-sorted : (tell : Place → Place) (rises : Bool) (es ds : List Listed) (fs : List Failure) (above : Place) (st : List Place) →
    Met tell rises es fs above st → ((p : Listed → Bool) → count_listed p ds ≡ count_listed p es) → Met tell rises ds fs above st
met-sorted tell rises es ds fs above st m same = record {
  counted = λ p. let b = same p in let c = m.counted p in omega (arith, b, c);
  found = λ e. m.found (none-counts es (let a = none-listed ds e in let b = same (λ x. true) in omega (arith, a, b)));
  explained = λ kept to i. let r = m.explained kept to i in (r.0, r.1, r.2, moved es ds same (told tell r.0) r.3);
  risen = λ lost. let r = m.risen lost in (r.0, r.1, r.2, moved es ds same (told tell r.0) r.3);
}

module _ {S P : Type 0} (shown : S → Shown) (c : Collector S P) where
  pub one-enclosing : (e : Enclosing S) → all_expanded shown c (e ∷ []) ≡ expansion shown c (view_selections shown e.selections.now)
  unfolding all_expanded
  one-enclosing e = chain-end (expansion shown c (view_selections shown e.selections.now))

module _ {S P Q : Type 0} (shown : S → Shown) (c : Collector S P) (asks : Name → Head → Q → Type 0) where
  -- a plan without groups stands
  pub bare-stands : (possible : Name → Name → Bool) (fields : ℕ) (p : Plan S Q) → IsBare fields p → IsStanding shown c asks possible p
  bare-stands possible fields p bare = record {
    within = subst (λ gs. AreWithin (length p.occurrences.items) gs) (sym bare.groups) tt;
    counted = ap length bare.below ∙ sym (ap length bare.groups);
    asked = ap length bare.questions ∙ sym (ap length bare.groups);
    below = subst (λ bss. AllRight shown c asks possible p 0 bss) (sym (ap (map (λ v. v.items)) bare.below)) tt;
  }

module _ {N : Type 0} (W : World N) (T : Name) (m : N) (s u : Forest) (same_selected : u ≡ s) (at : Place) (top : at ≡ []) (v : Value) (es ds : List Listed)
    (walked : IsObjectWalked W at u T m v es) (same : (p : Listed → Bool) → count_listed p ds ≡ count_listed p es) where
  at-root : IsObjectWalked W [] s T m v es
  at-root = subst (λ p. IsObjectWalked W p s T m v es) top (subst (λ x. IsObjectWalked W at x T m v es) same_selected walked)

  pub walk-is-exact : IsTrue (is_sorted ds) → IsExactAnswerFor W T m s v ds
  walk-is-exact sorted = (walks-exact-answer W T m s v es ds at-root.value same sorted).1 (at-root.errors [])

  pub walk-is-of-firsts : IsFirstsAnswer W T m s v ds
  walk-is-of-firsts =
      met-sorted whole (is_null v) es ds (map (for_picked first_start) (failures_of W [] [] T m s)) [] (nulls_of W [] T m s) (at-root.errors []) same
