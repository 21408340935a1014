-- Each request that is read has an outcome.
use Rattle.std.proofs.Common.{◌≡◌, ◌≤◌, Bool, true, List, [], ◌∷◌, ◌++◌, map, Option, Some, refl, sym, ap, ◌∙◌, inl, inr, arith}
use Rattle.graphql_spec.specs.Shown.{Name}
use Rattle.graphql_spec.specs.Positions.{Position}
use Rattle.graphql_spec.specs.Values.{Value, is_null}
use Rattle.graphql_spec.specs.Inputs.{Variables}
use Rattle.graphql_spec.specs.Documents.{Document, OperationType, query, mutation, subscription}
use Rattle.graphql_spec.specs.Placed.{root_type}
use Rattle.graphql_spec.specs.Errors.{Place, Listed}
use Rattle.graphql_spec.specs.Selections.{Forest, depth, occurrences, keys}
use Rattle.graphql_spec.specs.Resolvers.{World}
use Rattle.graphql_spec.specs.Execution.{data_of}
use Rattle.graphql_spec.specs.Failures.{Failure, failures_of}
use Rattle.graphql_spec.specs.Nulls.{nulls_of}
use Rattle.graphql_spec.specs.Mutation.{Mutation, data_of_run, run_nulls, root_fields, mutation_run}
use Rattle.graphql_spec.specs.Laws.{In, RisesTo, Pair, pair_at, pairs, count}
use Rattle.graphql_spec.specs.Walk.{Met, told, count_listed}
use Rattle.graphql_spec.specs.Requests.{Outcome, refused, runs, of_document, selected}
use Rattle.graphql_spec.proofs.Grouping.{in_second}
use Rattle.graphql_spec.proofs.ValidRuns.{runs_are_valid}
use Rattle.graphql_spec.specs.GroupLaws.{for_picked, first_start}
use Rattle.graphql_spec.specs.MutationLaws.{HasRun}
use Rattle.graphql_spec.specs.Outcomes.{Request, Steps, Service, Response, refuses, responds, Reads, world_in, mutation_in, IsExecuted, IsOutcome}
use Rattle.graphql_spec.specs.ExactAnswers.{whole, PathsDiffer, ListsOnce}
use Rattle.graphql_spec.specs.OutcomeExists.{Answers, OutcomeExists}
use Rattle.graphql_spec.proofs.Started.{Started, started}
use Rattle.graphql_spec.proofs.StartedRuns.{run-started}
use Rattle.graphql_spec.proofs.CausesOfRuns.{query-cause, query-stand, run-cause, run-stand}
use Rattle.graphql_spec.proofs.Sorting.{sort, sorted, same-counts}
use Rattle.graphql_spec.proofs.Running.{run-answers}
use Rattle.graphql_spec.proofs.Exact.{walks-exact-answer, runs-exact-answer}

abbrev firsts : List Failure → List Failure
firsts fs = map (for_picked first_start) fs

-- a failure with an occurrence is one of the pairs
pair-of : (fs : List Failure) (f : Failure) → In f fs → (f.starts ≡ [] → ⊥) → (q : Pair) × In q (pairs (firsts fs)) × (q.rises_to ≡ f.rises_to)
unfolding pairs for_picked pair_at first_start
pair-of [] f i n = absurd i
pair-of (g ∷ fs) f (inl e) n = go g.starts (λ z. n (ap (λ (x : Failure). x.starts) e ∙ z))
  where
    go : (ss : List Position) → (ss ≡ [] → ⊥) → (q : Pair) × In q (map (pair_at (for_picked first_start g)) (first_start ss) ++ pairs (firsts fs)) ×
        (q.rises_to ≡ f.rises_to)
    go [] n = absurd (n refl)
    go (s ∷ ss) n = (pair_at (for_picked first_start g) s, inl refl, ap (λ (x : Failure). x.rises_to) (sym e))
pair-of (g ∷ fs) f (inr i) n = let r = pair-of fs f i n in (
  r.0,
  in_second r.0 (map (pair_at (for_picked first_start g)) (first_start g.starts))
      (pairs (firsts fs)) r.1,
  r.2,
)

module _ (tell : Place → Place) where
  told-counts : (p : Listed → Bool) (qs : List Pair) → count_listed p (map (told tell) qs) ≤ count (λ q. p (told tell q)) qs
  unfolding count_listed count
  told-counts p [] = omega arith
  told-counts p (q ∷ qs) = let r = told-counts p qs in omega (arith, r)

  told-none : (qs : List Pair) → map (told tell) qs ≡ [] → qs ≡ []
  told-none [] e = refl
  told-none (q ∷ qs) e = cc

  told-in : (q : Pair) (qs : List Pair) → In q qs → In (told tell q) (map (told tell) qs)
  told-in q [] i = absurd i
  told-in q (x ∷ qs) (inl e) = inl (ap (told tell) e)
  told-in q (x ∷ qs) (inr i) = inr (told-in q qs i)

  -- each failure told at its first occurrence is met
  all-met : (b : Bool) (fs : List Failure) (above : Place) (st : List Place) → Started fs → ((p : Place) → In p st → RisesTo p fs) →
      (b ≡ true → RisesTo above fs) →
      Met tell b (map (told tell) (pairs (firsts fs))) (firsts fs) above st
  all-met b fs above st s stand cause = record {
    counted = λ p. told-counts p (pairs (firsts fs));
    found = λ e. told-none (pairs (firsts fs)) e;
    explained = λ e to i. why to (stand to i);
    risen = λ e. why above (cause e);
  }
    where
      why : (to : Place) → RisesTo to fs → (q : Pair) × In q (pairs (firsts fs)) × (q.rises_to ≡ to) × In (told tell q) (map (told tell) (pairs (firsts fs)))
      why to (f, i, e) = let r = pair-of fs f i (s f i) in (r.0, r.1, r.2 ∙ e, told-in r.0 (pairs (firsts fs)) r.1)

pub query-started : {N : Type 0} (W : World N) (s : Forest) (place to : Place) (U : Name) (n : N) → Started (failures_of W place to U n s)
unfolding failures_of
query-started W s place to U n = started W (depth s) place to U n (occurrences W.possible U s)

query-met : (tell : Place → Place) {N : Type 0} (W : World N) (T : Name) (m : N) (s : Forest) →
    Met tell (is_null (data_of W T m s)) (map (told tell) (pairs (firsts (failures_of W [] [] T m s)))) (firsts (failures_of W [] [] T m s)) []
    (nulls_of W [] T m s)
query-met tell W T m s = all-met tell (is_null (data_of W T m s)) (failures_of W [] [] T m s) [] (nulls_of W [] T m s) (query-started W s [] [] T m)
    (λ p i. query-stand W s T m p i) (λ e. query-cause W s T m e)

-- what a run of a mutation's root lists, each failure at its first occurrence
run-listed : (tell : Place → Place) {C N : Type 0} (M : Mutation C N) (T : Name) (s : Forest) (c : C) →
    HasRun tell first_start M T (keys (root_fields M T s c)) (root_fields M T s c) c (data_of_run (mutation_run M T s c))
    (map (told tell) (pairs (firsts (mutation_run M T s c).failures))) (mutation_run M T s c).context
run-listed tell M T s c = let os = root_fields M T s c in record {
  value = refl;
  errors = all-met tell (is_null (data_of_run (mutation_run M T s c))) (mutation_run M T s c).failures [] (run_nulls M T (keys os) os c)
      (run-started M T (keys os) os c) (λ p i. run-stand M T (keys os) os c p i) (λ e. run-cause M T (keys os) os c e);
  context = refl;
}

module _ {C N : Type 0} (S : Service C N) where
  -- an operation that runs is executed
  abbrev Executes : (Place → Place) → OperationType → Variables → Forest → C → Type 0
  Executes tell k vars s c = (v : Value) × (es : List Listed) × (after : C) × IsExecuted S tell k vars s c v es after

  abbrev ExecutesOnce : OperationType → Variables → Forest → C → Type 0
  ExecutesOnce k vars s c = (v : Value) × (es : List Listed) × (after : C) × IsExecuted S whole k vars s c v es after × PathsDiffer es

  module _ (steps : (T : Name) → S.schema.mutation ≡ Some T → (m : Steps C N) × (S.mutation ≡ Some m)) where
    executes : (tell : Place → Place) (k : OperationType) (vars : Variables) (s : Forest) (c : C) (root : Name) → root_type S.schema k ≡ Some root →
        Executes tell k vars s c
    unfolding root_type
    executes tell query vars s c root e =
        let W : World N = world_in S vars c in
        let es : List Listed = map (told tell) (pairs (firsts (failures_of W [] [] S.schema.query S.root s))) in (
          data_of W S.schema.query S.root s,
          sort es,
          c,
          (
            (walks-exact-answer W S.schema.query S.root s (data_of W S.schema.query S.root s) es (sort es) refl
                (same-counts es) (sorted es)).0 tell (query-met tell W S.schema.query S.root s),
            refl,
          ),
        )
    executes tell mutation vars s c root e =
        let m = steps root e in
        let M : Mutation C N = mutation_in S m.0 vars in
        let r = mutation_run M root s c in
        let es : List Listed = map (told tell) (pairs (firsts r.failures)) in (
          data_of_run r,
          sort es,
          r.context,
          (
            m.0,
            root,
            (m.1, e),
            run-answers tell M root s c r.context (data_of_run r) es (sort es)
                (inr (run-listed tell M root s c)) (same-counts es) (sorted es),
          ),
        )
    executes tell subscription vars s c root e = cc

    executes-once : (k : OperationType) (vars : Variables) (s : Forest) (c : C) (root : Name) → root_type S.schema k ≡ Some root → ExecutesOnce k vars s c
    unfolding root_type
    executes-once query vars s c root e =
        let W : World N = world_in S vars c in
        let es : List Listed = map (told whole) (pairs (firsts (failures_of W [] [] S.schema.query S.root s))) in
        let a = (walks-exact-answer W S.schema.query S.root s (data_of W S.schema.query S.root s) es (sort es) refl (same-counts es) (sorted es)).1
        (query-met whole W S.schema.query S.root s) in
        (data_of W S.schema.query S.root s, sort es, c, (a.0, refl), a.1)
    executes-once mutation vars s c root e =
        let m = steps root e in
        let M : Mutation C N = mutation_in S m.0 vars in
        let r = mutation_run M root s c in
        let es : List Listed = map (told whole) (pairs (firsts r.failures)) in
        let a = runs-exact-answer M root s c r.context (data_of_run r) es (sort es) (run-listed whole M root s c) (same-counts es) (sorted es) in
        (data_of_run r, sort es, r.context, (m.0, root, (m.1, e), a.0), a.1)
    executes-once subscription vars s c root e = cc

    exists : (q : Request) (d : Option Document) → Reads q.text d → (c : C) (x : Outcome) →
        of_document S.schema S.introspection_disabled q.operation q.variables d ≡ x →
        ((tell : Place → Place) → (r : Response) × (after : C) × IsOutcome S tell q c r after × Answers r) ×
        ((r : Response) × (after : C) × IsOutcome S whole q c r after × ListsOnce r × Answers r)
    exists q d t c (refused r) e = (λ tell. (refuses r, c, ((d, t, e), refl), tt), (refuses r, c, ((d, t, e), refl), tt, tt))
    exists q d t c (runs doc o vars) e =
        let root = (runs_are_valid S.schema S.introspection_disabled q.operation q.variables d doc o vars e).3 in (
          λ tell. let x = executes tell o.kind vars (selected doc o vars) c root.0 root.1 in (responds x.0 x.1, x.2, (doc, o, vars, (d, t, e), x.3), tt),
          (let x = executes-once o.kind vars (selected doc o vars) c root.0 root.1 in (responds x.0 x.1, x.2, (doc, o, vars, (d, t, e), x.3), x.4, tt)),
        )

  pub outcome-exists : OutcomeExists S
  outcome-exists steps q d t c = exists steps q d t c (of_document S.schema S.introspection_disabled q.operation q.variables d) refl
