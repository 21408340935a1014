-- Each request has an outcome that is all that is promised.
use Rattle.std.proofs.Common.{◌≡◌, ◌≤◌, Bool, true, List, [], ◌∷◌, ◌++◌, map, Option, Some, refl, sym, ap, ◌∙◌, inl, inr, arith}
use Rattle.graphql_spec.specs.Shown.{Name}
use Rattle.graphql_spec.specs.Positions.{Position}
use Rattle.graphql_spec.specs.Values.{Value, is_null}
use Rattle.graphql_spec.specs.Inputs.{Variables}
use Rattle.graphql_spec.specs.Documents.{Document, OperationType, query, mutation, subscription}
use Rattle.graphql_spec.specs.Placed.{root_type}
use Rattle.graphql_spec.specs.Errors.{Place, Listed}
use Rattle.graphql_spec.specs.Selections.{Forest, keys}
use Rattle.graphql_spec.specs.Resolvers.{World}
use Rattle.graphql_spec.specs.Execution.{data_of}
use Rattle.graphql_spec.specs.Failures.{Failure, failures_of}
use Rattle.graphql_spec.specs.Nulls.{nulls_of}
use Rattle.graphql_spec.specs.Mutation.{Mutation, data_of_run, run_nulls, root_fields, mutation_run}
use Rattle.graphql_spec.specs.Laws.{In, RisesTo, Pair, pair_at, pairs, count}
use Rattle.graphql_spec.specs.Walk.{Met, told, count_listed}
use Rattle.graphql_spec.specs.Requests.{Outcome, refused, runs, of_document, selected}
use Rattle.graphql_spec.specs.GroupLaws.{for_picked, first_start}
use Rattle.graphql_spec.specs.MutationLaws.{HasRun}
use Rattle.graphql_spec.specs.Outcomes.{Request, Steps, Service, Response, refuses, responds, Reads, world_in, mutation_in, IsExecuted}
use Rattle.graphql_spec.specs.OutcomeLaws.{FailIn, StandIn}
use Rattle.graphql_spec.specs.OutcomeExists.{Answers}
use Rattle.graphql_spec.specs.ExactAnswers.{whole, PathsDiffer, TellsExactly}
use Rattle.graphql_spec.proofs.Grouping.{in_second}
use Rattle.graphql_spec.proofs.ValidRuns.{runs_are_valid}
use Rattle.graphql_spec.proofs.Existing.{query-started}
use Rattle.graphql_spec.proofs.Started.{Started}
use Rattle.graphql_spec.proofs.StartedRuns.{run-started}
use Rattle.graphql_spec.proofs.CausesOfRuns.{query-cause, query-stand, run-cause, run-stand}
use Rattle.graphql_spec.proofs.Sorting.{sort, sorted, same-counts}
use Rattle.graphql_spec.proofs.Exact.{walks-exact-answer, runs-exact-answer}
use Rattle.juniper_execute.proofs.ToldFirsts.{run-tells}
use Rattle.juniper.proofs.ToldFirsts.{firsts-become, listed-tells, mutation-told, query-told, told-of-run}
use Rattle.juniper.specs.Promised.{IsFullOutcome}

-- ## All failures, each for the first of its field's occurrences

abbrev firsts : List Failure → List Failure
firsts fs = map (for_picked first_start) fs

abbrev all_told : List Failure → List Listed
all_told fs = map (told whole) (pairs (firsts fs))

-- a failure with an occurrence is one of the pairs
first-pair : (fs : List Failure) (f : Failure) → In f fs → (f.starts ≡ [] → ⊥) → (q : Pair) × In q (pairs (firsts fs)) × (q.rises_to ≡ f.rises_to)
unfolding pairs for_picked pair_at first_start
first-pair [] f i n = absurd i
first-pair (g ∷ fs) f (inl e) n = go g.starts (λ z. n (ap (λ (x : Failure). x.starts) e ∙ z))
  where
    go : (ss : List Position) → (ss ≡ [] → ⊥) → (q : Pair) × In q (map (pair_at (for_picked first_start g)) (first_start ss) ++ pairs (firsts fs)) ×
        (q.rises_to ≡ f.rises_to)
    go [] n = absurd (n refl)
    go (s ∷ ss) n = (pair_at (for_picked first_start g) s, inl refl, ap (λ (x : Failure). x.rises_to) (sym e))
first-pair (g ∷ fs) f (inr i) n =
    let r = first-pair fs f i n in (r.0, in_second r.0 (map (pair_at (for_picked first_start g)) (first_start g.starts)) (pairs (firsts fs)) r.1, r.2)

all-count : (p : Listed → Bool) (qs : List Pair) → count_listed p (map (told whole) qs) ≤ count (λ q. p (told whole q)) qs
unfolding count_listed count
all-count p [] = omega arith
all-count p (q ∷ qs) = let r = all-count p qs in omega (arith, r)

all-none : (qs : List Pair) → map (told whole) qs ≡ [] → qs ≡ []
all-none [] e = refl
all-none (q ∷ qs) e = cc

all-in : (q : Pair) (qs : List Pair) → In q qs → In (told whole q) (map (told whole) qs)
all-in q [] i = absurd i
all-in q (x ∷ qs) (inl e) = inl (ap (told whole) e)
all-in q (x ∷ qs) (inr i) = inr (all-in q qs i)

all-met : (b : Bool) (fs : List Failure) (above : Place) (st : List Place) → Started fs → ((p : Place) → In p st → RisesTo p fs) →
    (b ≡ true → RisesTo above fs) → Met whole b (all_told fs) (firsts fs) above st
all-met b fs above st s stand cause = record {
  counted = λ p. all-count p (pairs (firsts fs));
  found = λ e. all-none (pairs (firsts fs)) e;
  explained = λ e to i. why to (stand to i);
  risen = λ e. why above (cause e);
}
  where
    why : (to : Place) → RisesTo to fs → (q : Pair) × In q (pairs (firsts fs)) × (q.rises_to ≡ to) × In (told whole q) (all_told fs)
    why to (f, i, e) = let r = first-pair fs f i (s f i) in (r.0, r.1, r.2 ∙ e, all-in r.0 (pairs (firsts fs)) r.1)

query-met : {N : Type 0} (W : World N) (T : Name) (m : N) (s : Forest) → Met whole (is_null (data_of W T m s)) (all_told (failures_of W [] [] T m s))
    (firsts (failures_of W [] [] T m s)) [] (nulls_of W [] T m s)
query-met W T m s = all-met (is_null (data_of W T m s)) (failures_of W [] [] T m s) [] (nulls_of W [] T m s) (query-started W s [] [] T m)
    (λ p i. query-stand W s T m p i) (λ e. query-cause W s T m e)

run-met : {C N : Type 0} (M : Mutation C N) (T : Name) (s : Forest) (c : C) →
    HasRun whole first_start M T (keys (root_fields M T s c)) (root_fields M T s c) c (data_of_run (mutation_run M T s c))
    (all_told (mutation_run M T s c).failures) (mutation_run M T s c).context
run-met M T s c = let os = root_fields M T s c in record {
  value = refl;
  errors = all-met (is_null (data_of_run (mutation_run M T s c))) (mutation_run M T s c).failures [] (run_nulls M T (keys os) os c)
      (run-started M T (keys os) os c) (λ p i. run-stand M T (keys os) os c p i) (λ e. run-cause M T (keys os) os c e);
  context = refl;
}

-- ## Each request

module _ {C N : Type 0} (S : Service C N) where
  -- an operation that runs is executed, and its failures are told so
  abbrev Executes : OperationType → Variables → Forest → C → Type 0
  Executes k vars s c = (v : Value) × (es : List Listed) × (after : C) × IsExecuted S whole k vars s c v es after × PathsDiffer es ×
      ((fs : List Failure) (stands : List Place) → FailIn S k vars s c fs → StandIn S k vars s c stands →
      TellsExactly es (firsts fs) stands)

  module _ (steps : (T : Name) → S.schema.mutation ≡ Some T → (m : Steps C N) × (S.mutation ≡ Some m)) where
    executes : (k : OperationType) (vars : Variables) (s : Forest) (c : C) (root : Name) → root_type S.schema k ≡ Some root → Executes k vars s c
    unfolding root_type
    executes query vars s c root e =
        let W : World N = world_in S vars c in
        let T = S.schema.query in
        let v = data_of W T S.root s in
        let es : List Listed = all_told (failures_of W [] [] T S.root s) in
        let met = query-met W T S.root s in
        let a = (walks-exact-answer W T S.root s v es (sort es) refl (same-counts es) (sorted es)).1 met in
        let t = listed-tells W T S.root s v es (sort es) refl met (same-counts es) (sorted es) in
        (v, sort es, c, (a.0, refl), a.1, λ fs stands f g. query-told S c vars s (sort es) query refl t fs stands f g)
    executes mutation vars s c root e =
        let m = steps root e in
        let M : Mutation C N = mutation_in S m.0 vars in
        let r = mutation_run M root s c in
        let es : List Listed = all_told r.failures in
        let met = run-met M root s c in
        let a = runs-exact-answer M root s c r.context (data_of_run r) es (sort es) met (same-counts es) (sorted es) in
        let t = run-tells M root s c r.context (data_of_run r) es (sort es) met (same-counts es) (sorted es) in (
          data_of_run r,
          sort es,
          r.context,
          (m.0, root, (m.1, e), a.0),
          a.1,
          λ fs stands f g. mutation-told S c vars s (sort es) m.0 root (m.1, e) mutation refl t fs stands f g,
        )
    executes subscription vars s c root e = cc

    full-exists : (q : Request) (d : Option Document) → Reads q.text d → (c : C) (x : Outcome) →
        of_document S.schema S.introspection_disabled q.operation q.variables d ≡ x →
        (r : Response) × (after : C) × IsFullOutcome S q c r after × Answers r
    full-exists q d t c (refused r) e = (refuses r, c, ((((d, t, e), refl), tt), tt), tt)
    full-exists q d t c (runs doc o vars) e =
        let root = (runs_are_valid S.schema S.introspection_disabled q.operation q.variables d doc o vars e).3 in
        let x = executes o.kind vars (selected doc o vars) c root.0 root.1 in (
          responds x.0 x.1,
          x.2,
          (
            ((doc, o, vars, (d, t, e), x.3), x.4),
            firsts-become S c q (runs doc o vars) (d, t, e) (responds x.0 x.1)
                (told-of-run S c (runs doc o vars) doc o vars refl x.0 x.1 x.5),
          ),
          tt,
        )

    pub full-outcome : (q : Request) (d : Option Document) → Reads q.text d → (c : C) → (r : Response) × (after : C) × IsFullOutcome S q c r after × Answers r
    full-outcome q d t c = full-exists q d t c (of_document S.schema S.introspection_disabled q.operation q.variables d) refl
