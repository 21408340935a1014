-- Failures for some of their field's occurrences alone.
use Rattle.std.proofs.Common.{◌≡◌, ◌≤◌, ◌+◌, ◌&&◌, ℕ, suc, Bool, true, false, List, [], ◌∷◌, ◌++◌, map, refl, sym, ap₂, ◌∙◌, inl, inr, subst, arith}
use Rattle.std.proofs.lemmas.Bool.{cases_Bool}
use Rattle.std.proofs.lemmas.List.{map-append}
use Rattle.graphql_spec.specs.Shown.{Name}
use Rattle.graphql_spec.specs.Positions.{Position}
use Rattle.graphql_spec.specs.Types.{TypeRef, named, list_of, required}
use Rattle.graphql_spec.specs.Errors.{Place, index}
use Rattle.graphql_spec.specs.Resolvers.{Tree, nothing, leaf, items, node, Trees, no_trees, tree, Reply, answered, failed, World}
use Rattle.graphql_spec.specs.Failures.{Failure, landing, starts_of, faults, all_faults, reply_faults, failures_of}
use Rattle.graphql_spec.specs.Execution.{data_of}
use Rattle.graphql_spec.specs.Nulls.{reply_standing, nulls_of}
use Rattle.graphql_spec.specs.Selections.{all_below}
use Rattle.graphql_spec.specs.Values.{is_null}
use Rattle.graphql_spec.specs.Laws.{In, Pair, pair_at, pairs, count}
use Rattle.graphql_spec.specs.Walk.{Met, told}
use Rattle.graphql_spec.proofs.Grouping.{in_append, in_first, in_second}
use Rattle.graphql_spec.specs.GroupLaws.{for_picked, all_starts, first_start, OnceCompleted, AllCompleted}
use Rattle.graphql_spec.specs.ExactAnswers.{FirstsStand}

all-picked : (f : Failure) → for_picked all_starts f ≡ f
unfolding for_picked all_starts
all-picked f = refl

pub map-all : (fs : List Failure) → map (for_picked all_starts) fs ≡ fs
map-all [] = refl
map-all (f ∷ fs) = ap₂ (λ x xs. x ∷ xs) (all-picked f) (map-all fs)

module _ {N : Type 0} (W : World N) (at : Place → Place → Name → N → List Failure) (pick : List Position → List Position) (starts : List Position) where
  abbrev P : Failure → Failure
  P = for_picked pick

  abbrev inside : Place → Place → Name → N → List Failure
  inside place to U n = map P (at place to U n)

  mutual
    unfolding faults required landing for_picked

    faults-picked : (here above : Place) (t : TypeRef) (a : Tree N) → map P (faults W at here starts above t a) ≡ faults W inside here (pick starts) above t a
    faults-picked here above (named true n) nothing = refl
    faults-picked here above (named false n) nothing = refl
    faults-picked here above (list_of true size t) nothing = refl
    faults-picked here above (list_of false size t) nothing = refl
    faults-picked here above (named r n) (leaf x) = elim (cases_Bool (W.accepts n x)) [ inl q ↦ rw q refl | inr q ↦ rw q refl ]
    faults-picked here above (named r n) (node m) = elim (cases_Bool (W.possible (W.concrete m) n)) [ inl q ↦ rw q refl | inr q ↦ rw q refl ]
    faults-picked here above (named r n) (items ts) = refl
    faults-picked here above (list_of r size t) (leaf x) = refl
    faults-picked here above (list_of r size t) (node m) = refl
    faults-picked here above (list_of r size t) (items ts) = items-picked here 0 (landing (list_of r size t) here above) t ts

    items-picked : (here : Place) (i : ℕ) (above : Place) (t : TypeRef) (ts : Trees N) →
        map P (all_faults W at here i starts above t ts) ≡ all_faults W inside here i (pick starts) above t ts
    items-picked here i above t no_trees = refl
    items-picked here i above t (tree a rest) = map-append P (faults W at (here ++ index i ∷ []) starts above t a)
        (all_faults W at here (suc i) starts above t rest)
        ∙ ap₂ (λ xs ys. xs ++ ys) (faults-picked (here ++ index i ∷ []) above t a) (items-picked here (suc i) above t rest)

  pub reply-picked : (here above : Place) (t : TypeRef) (r : Reply N) → map P (reply_faults W at here starts above t r) ≡ reply_faults W inside here
      (pick starts) above t r
  unfolding reply_faults for_picked
  reply-picked here above t (answered a) = faults-picked here above t a
  reply-picked here above t (failed e) = refl

pub once-completed : (tell : Place → Place) (pick : List Position → List Position) {N : Type 0} (W : World N) → OnceCompleted tell pick W
once-completed tell pick W here above t r os v es e m =
    let st : List Place = reply_standing W (λ U n. data_of W U n (all_below os)) (λ place U n. nulls_of W place U n (all_below os)) here t r in
    record {
      value = e;
      errors = subst (λ z. Met tell (is_null v && required t) es z above st) (sym
          (reply-picked W (λ place to U n. failures_of W place to U n (all_below os)) pick (starts_of os) here above t r)) m;
    }

pub all-completed : {N : Type 0} (W : World N) → AllCompleted W
all-completed W tell here above t r os v es c =
    let st : List Place = reply_standing W (λ U n. data_of W U n (all_below os)) (λ place U n. nulls_of W place U n (all_below os)) here t r in
    record {
      value = c.value;
      errors = subst (λ z. Met tell (is_null v && required t) es z above st) (sym
          (map-all (reply_faults W (λ place to U n. failures_of W place to U n (all_below os)) here (starts_of os) above t r))) c.errors;
    }

-- ## The first alone

more-counted : (p : Pair → Bool) (xs ys : List Pair) → count p (xs ++ ys) ≡ count p xs + count p ys
unfolding count
more-counted p [] ys = omega arith
more-counted p (x ∷ xs) ys = let r = more-counted p xs ys in omega (arith, r)

first-counted : (p : Pair → Bool) (f : Failure) (ss : List Position) → count p (map (pair_at f) (first_start ss)) ≤ count p (map (pair_at f) ss)
unfolding count first_start
first-counted p f [] = omega arith
first-counted p f (s ∷ ss) = omega arith

first-in : (f : Failure) (q : Pair) (ss : List Position) → In q (map (pair_at f) (first_start ss)) → In q (map (pair_at f) ss)
unfolding first_start
first-in f q [] i = i
first-in f q (s ∷ ss) (inl e) = inl e
first-in f q (s ∷ ss) (inr i) = absurd i

first-none : (f : Failure) (ss : List Position) → map (pair_at f) (first_start ss) ≡ [] → map (pair_at f) ss ≡ []
unfolding first_start
first-none f [] e = refl
first-none f (s ∷ ss) e = cc

nil-pairs : (xs ys : List Pair) → xs ++ ys ≡ [] → (xs ≡ []) × (ys ≡ [])
nil-pairs [] ys e = (refl, e)
nil-pairs (x ∷ xs) ys e = cc

pub fewer-firsts : (p : Pair → Bool) (fs : List Failure) → count p (pairs (map (for_picked first_start) fs)) ≤ count p (pairs fs)
unfolding pairs for_picked pair_at
fewer-firsts p [] = omega arith
fewer-firsts p (f ∷ fs) =
    let a = fewer-firsts p fs in let b = first-counted p f f.starts in
    let c = more-counted p (map (pair_at f) (first_start f.starts)) (pairs (map (for_picked first_start) fs)) in
    let d = more-counted p (map (pair_at f) f.starts) (pairs fs) in omega (arith, a, b, c, d)

in-firsts : (q : Pair) (fs : List Failure) → In q (pairs (map (for_picked first_start) fs)) → In q (pairs fs)
unfolding pairs for_picked pair_at
in-firsts q [] i = i
in-firsts q (f ∷ fs) i = elim (in_append q (map (pair_at f) (first_start f.starts)) (pairs (map (for_picked first_start) fs)) i) [
  | inl j ↦ in_first q (map (pair_at f) f.starts) (pairs fs) (first-in f q f.starts j)
  | inr j ↦ in_second q (map (pair_at f) f.starts) (pairs fs) (in-firsts q fs j)
]

none-first : (fs : List Failure) → pairs (map (for_picked first_start) fs) ≡ [] → pairs fs ≡ []
unfolding pairs for_picked pair_at
none-first [] e = refl
none-first (f ∷ fs) e =
    let p = nil-pairs (map (pair_at f) (first_start f.starts)) (pairs (map (for_picked first_start) fs)) e in
    rw (first-none f f.starts p.0) (none-first fs p.1)

pub firsts-stand : FirstsStand
firsts-stand tell rises es fs above stands m = record {
  counted = λ p. let a = m.counted p in let b = fewer-firsts (λ q. p (told tell q)) fs in omega (arith, a, b);
  found = λ e. none-first fs (m.found e);
  explained = λ e to i. let r = m.explained e to i in (r.0, in-firsts r.0 fs r.1, r.2, r.3);
  risen = λ e. let r = m.risen e in (r.0, in-firsts r.0 fs r.1, r.2, r.3);
}
