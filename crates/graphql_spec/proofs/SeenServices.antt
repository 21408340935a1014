-- What is an outcome with nodes that are seen as others is an outcome with those.
use Rattle.std.proofs.Common.{◌≡◌, Bool, true, false, List, [], Option, Some, None, option_map, IsTrue, refl, sym, ap, ap₂, subst, inl, inr}
use Rattle.graphql_spec.specs.Shown.{Name}
use Rattle.graphql_spec.specs.Inputs.{Variables}
use Rattle.graphql_spec.specs.Constants.{Members}
use Rattle.graphql_spec.specs.Documents.{Document, Operation, OperationType, query, mutation, subscription}
use Rattle.graphql_spec.specs.Schema.{Schema}
use Rattle.graphql_spec.specs.Types.{named}
use Rattle.graphql_spec.specs.Fields.{is_possible}
use Rattle.graphql_spec.specs.Values.{Value}
use Rattle.graphql_spec.specs.Errors.{Place, Listed}
use Rattle.graphql_spec.specs.Selections.{Forest, Occurrence, occurrences, keys}
use Rattle.graphql_spec.specs.Resolvers.{Reply, world_of}
use Rattle.graphql_spec.specs.Failures.{Failure}
use Rattle.graphql_spec.specs.Nulls.{null_or}
use Rattle.graphql_spec.specs.Mutation.{Mutation, Run, run, run_nulls, data_of_run, IsLeft}
use Rattle.graphql_spec.specs.Walk.{IsAnswer, IsMutationAnswerFor}
use Rattle.graphql_spec.specs.Requests.{Outcome, of_document, runs, selected}
use Rattle.graphql_spec.specs.Outcomes.{Request, Response, Service, Steps, refuses, responds, out_of_memory, Becomes, IsQueryAnswer, IsExecuted, IsOutcome}
use Rattle.graphql_spec.specs.Outcomes.{IsOutcomeOf}
use Rattle.graphql_spec.specs.SeenNodes.{map_reply, selects_only, IsSameRun}
use Rattle.graphql_spec.specs.SeenServices.{seen_steps, mutation_of, service, SeenOutcomes}
use Rattle.graphql_spec.specs.Introspection.{user, root as top_node, rooted_concrete, rooted_answer, rooted_world, rooted_service}
use Rattle.graphql_spec.specs.IntrospectionLaws.{is_users_field, UsersOutcomes}
use Rattle.graphql_spec.proofs.DisabledRequests.{disabled_looks_nowhere}
use Rattle.graphql_spec.proofs.Keeping.{options}
use Rattle.graphql_spec.proofs.RootedUsers.{users_answer, users_execute}
use Rattle.graphql_spec.proofs.SeenNodes.{seen_alike, selects-any, selects-occurrences}
use Rattle.graphql_spec.proofs.SeenRuns.{run-seen, run_nulls-seen, left-seen, left-back}

-- an answer to what is the same
answers-alike : (tell : Place → Place) (value : Value) (es : List Listed) (d d' : Value) (fs fs' : List Failure) (ns ns' : List Place) → d ≡ d' → fs ≡ fs' →
    ns ≡ ns' → IsAnswer tell d fs ns value es → IsAnswer tell d' fs' ns' value es
answers-alike tell value es d d' fs fs' ns ns' p q r a =
    subst (λ (z : List Place). IsAnswer tell d' fs' z value es) r (subst (λ (z : List Failure). IsAnswer tell d' z ns value es) q
    (subst (λ (z : Value). IsAnswer tell z fs ns value es) p a))

-- the nulls that stand for failures in the same data
nulls-alike : (d d' : Value) (ns ns' : List Place) → d ≡ d' → ns ≡ ns' → null_or [] (named false []) d ns ≡ null_or [] (named false []) d' ns'
nulls-alike d d' ns ns' p q = ap₂ (λ (x : Value) (xs : List Place). null_or [] (named false []) x xs) p q

module _ {C M N : Type 0} (s : Schema) (h : M → N) (concrete : C → M → Name) (answer : C → M → Name → Members → Reply M)
    (concrete' : C → N → Name) (answer' : C → N → Name → Members → Reply N) (same_type : (c : C) (m : M) → concrete c m ≡ concrete' c (h m))
    (passes : Name → Bool) (same_reply : (c : C) (m : M) (f : Name) (args : Members) → IsTrue (passes f) →
    map_reply h (answer c m f args) ≡ answer' c (h m) f args) (tell : Place → Place) where
  module _ (vars : Variables) (m : Steps C M) (T : Name) (f : Forest) (e : selects_only passes f ≡ true) (c : C) where
    abbrev before : Mutation C M
    before = mutation_of s vars concrete answer m

    abbrev behind : Mutation C N
    behind = mutation_of s vars concrete' answer' (seen_steps h m)

    abbrev os : List Occurrence
    os = occurrences (is_possible s) T f

    runs-same : run before T (keys os) os c ≡ run behind T (keys os) os c
    runs-same =
        run-seen s vars h concrete answer concrete' answer' same_type passes same_reply m T (keys os) os (selects-occurrences passes (is_possible s) T f e) c

    nulls-same : run_nulls before T (keys os) os c ≡ run_nulls behind T (keys os) os c
    nulls-same = run_nulls-seen s vars h concrete answer concrete' answer' same_type passes same_reply m T (keys os) os
        (selects-occurrences passes (is_possible s) T f e) c

    data-same : data_of_run (run before T (keys os) os c) ≡ data_of_run (run behind T (keys os) os c)
    data-same = ap (λ (r : Run C). data_of_run r) runs-same

    left-same : (d : C) → (IsLeft before T (keys os) os c d → IsLeft behind T (keys os) os c d)
        × (IsLeft behind T (keys os) os c d → IsLeft before T (keys os) os c d)
    left-same d =
        let p = selects-occurrences passes (is_possible s) T f e in (
          λ l. left-seen s vars h concrete answer concrete' answer' same_type passes same_reply m T (keys os) os p c d l,
          λ l. left-back s vars h concrete answer concrete' answer' same_type passes same_reply m T (keys os) os p c d l,
        )

    mutation-seen : (value : Value) (es : List Listed) (after : C) → IsMutationAnswerFor before T tell f c value es after →
        IsMutationAnswerFor behind T tell f c value es after
    unfolding mutation_of world_of
    mutation-seen value es after a = record {
      answer = answers-alike tell value es _ _ _ _ _ _ data-same (ap (λ (r : Run C). r.failures) runs-same) (nulls-alike _ _ _ _ data-same nulls-same) a.answer;
      context = subst (λ (r : Run C). after ≡ r.context) runs-same a.context;
    }

    mutation-back : (value : Value) (es : List Listed) (after : C) → IsMutationAnswerFor behind T tell f c value es after →
        IsMutationAnswerFor before T tell f c value es after
    unfolding mutation_of world_of
    mutation-back value es after a = record {
      answer = answers-alike tell value es _ _ _ _ _ _ (sym data-same) (sym (ap (λ (r : Run C). r.failures) runs-same))
          (sym (nulls-alike _ _ _ _ data-same nulls-same)) a.answer;
      context = subst (λ (r : Run C). after ≡ r.context) (sym runs-same) a.context;
    }

  module _ (disabled : Bool) (root : M) (root' : N) (steps : Option (Steps C M))
      (stands : (c : C) (vars : Variables) (T : Name) (f : Forest) → selects_only passes f ≡ true →
      IsSameRun (world_of s vars (concrete c) (answer c)) (world_of s vars (concrete' c) (answer' c)) T root root' f) where
    abbrev V : Service C M
    V = service s disabled concrete answer root steps

    abbrev W : Service C N
    W = service s disabled concrete' answer' root' (option_map (seen_steps h) steps)

    query-seen : (vars : Variables) (f : Forest) → selects_only passes f ≡ true → (c : C) (value : Value) (es : List Listed) (after : C) →
        IsQueryAnswer V tell vars f c value es after → IsQueryAnswer W tell vars f c value es after
    query-seen vars f e c value es after (a, k) =
        let r = stands c vars s.query f e in
        (answers-alike tell value es _ _ _ _ _ _ r.data_is (r.failures_are [] []) (nulls-alike _ _ _ _ r.data_is (r.nulls_are [])) a, k)

    query-back : (vars : Variables) (f : Forest) → selects_only passes f ≡ true → (c : C) (value : Value) (es : List Listed) (after : C) →
        IsQueryAnswer W tell vars f c value es after → IsQueryAnswer V tell vars f c value es after
    query-back vars f e c value es after (a, k) =
        let r = stands c vars s.query f e in
        (answers-alike tell value es _ _ _ _ _ _ (sym r.data_is) (sym (r.failures_are [] [])) (sym (nulls-alike _ _ _ _ r.data_is (r.nulls_are []))) a, k)

    -- the steps whose replies are seen so
    has-seen : (m' : Steps C N) → option_map (seen_steps h) steps ≡ Some m' → (m : Steps C M) × (steps ≡ Some m) × (seen_steps h m ≡ m')
    has-seen m' e = elim (options steps) [
      | inl q ↦ let z : None ≡ Some m' = rw q at e in absurd (cc)
      | inr (m, q) ↦ let z : Some (seen_steps h m) ≡ Some m' = rw q at e in (m, q, cc)
    ]

    executed-seen : (kind : OperationType) (vars : Variables) (f : Forest) → selects_only passes f ≡ true →
        (c : C) (value : Value) (es : List Listed) (after : C) →
        IsExecuted V tell kind vars f c value es after → IsExecuted W tell kind vars f c value es after
    unfolding mutation_of seen_steps
    executed-seen query vars f e c value es after a = query-seen vars f e c value es after a
    executed-seen mutation vars f e c value es after (m, T, (has, at), a) =
        (seen_steps h m, T, (ap (option_map (seen_steps h)) has, at), mutation-seen vars m T f e c value es after a)
    executed-seen subscription vars f e c value es after x = x

    executed-back : (kind : OperationType) (vars : Variables) (f : Forest) → selects_only passes f ≡ true →
        (c : C) (value : Value) (es : List Listed) (after : C) →
        IsExecuted W tell kind vars f c value es after → IsExecuted V tell kind vars f c value es after
    unfolding mutation_of
    executed-back query vars f e c value es after a = query-back vars f e c value es after a
    executed-back mutation vars f e c value es after (m', T, (has, at), a) =
        let (m, q, z) = has-seen m' has in (
          m,
          T,
          (q, at),
          mutation-back vars m T f e c value es after (subst
              (λ (k : Steps C N). IsMutationAnswerFor (mutation_of s vars concrete' answer' k) T tell f c value es after) (sym z) a),
        )
    executed-back subscription vars f e c value es after x = x

    module _ (x : Outcome) (looks : (d : Document) (o : Operation) (vars : Variables) → x ≡ runs d o vars → selects_only passes (selected d o vars) ≡ true)
      where
        known-seen : (c : C) (r : Response) (after : C) → IsOutcomeOf V tell x c r after → IsOutcomeOf W tell x c r after
        unfolding mutation_of seen_steps world_of is_possible
        known-seen c (refuses y) after o = o
        known-seen c (responds value es) after (d, o, vars, b, a) =
            (d, o, vars, b, executed-seen o.kind vars (selected d o vars) (looks d o vars b) c value es after a)
        known-seen c out_of_memory after (inl e) = inl e
        known-seen c out_of_memory after (inr (d, o, vars, b, k, (m, T, (has, at), l))) =
            inr (
              d,
              o,
              vars,
              b,
              k,
              (
                seen_steps h m,
                T,
                (ap (option_map (seen_steps h)) has, at),
                (left-same vars m T (selected d o vars) (looks d o vars b) c after).0 l,
              ),
            )

    module _ (q : Request) (looks : (d : Document) (o : Operation) (vars : Variables) → Becomes V q (runs d o vars) →
        selects_only passes (selected d o vars) ≡ true) where
      outcome-seen : (c : C) (r : Response) (after : C) → IsOutcome V tell q c r after → IsOutcome W tell q c r after
      unfolding mutation_of seen_steps world_of is_possible
      outcome-seen c (refuses x) after o = o
      outcome-seen c (responds value es) after (d, o, vars, b, a) =
          (d, o, vars, b, executed-seen o.kind vars (selected d o vars) (looks d o vars b) c value es after a)
      outcome-seen c out_of_memory after (inl e) = inl e
      outcome-seen c out_of_memory after (inr (d, o, vars, b, k, (m, T, (has, at), l))) =
          inr (
            d,
            o,
            vars,
            b,
            k,
            (
              seen_steps h m,
              T,
              (ap (option_map (seen_steps h)) has, at),
              (left-same vars m T (selected d o vars) (looks d o vars b) c after).0 l,
            ),
          )

      outcome-back : (c : C) (r : Response) (after : C) → IsOutcome W tell q c r after → IsOutcome V tell q c r after
      unfolding mutation_of world_of is_possible
      outcome-back c (refuses x) after o = o
      outcome-back c (responds value es) after (d, o, vars, b, a) =
          (d, o, vars, b, executed-back o.kind vars (selected d o vars) (looks d o vars b) c value es after a)
      outcome-back c out_of_memory after (inl e) = inl e
      outcome-back c out_of_memory after (inr (d, o, vars, b, k, (m', T, (has, at), l))) =
          let (m, p, z) = has-seen m' has in
          let w : Mutation C N = mutation_of s vars concrete' answer' (seen_steps h m) in
          inr (
            d,
            o,
            vars,
            b,
            k,
            (
              m,
              T,
              (p, at),
              (left-same vars m T (selected d o vars) (looks d o vars b) c after).1
                  (subst (λ (y : Steps C N). IsLeft (mutation_of s vars concrete' answer' y) T (keys (occurrences (is_possible s) T (selected d o vars)))
                  (occurrences (is_possible s) T (selected d o vars)) c after) (sym z) l),
            ),
          )

any : Name → Bool
any f = true

pub seen_outcomes : {C M N : Type 0} → SeenOutcomes C M N
unfolding any
seen_outcomes s disabled h concrete answer concrete' answer' same_type same_reply root steps tell =
    let stands = λ (c : _) (vars : Variables) (T : Name) (f : Forest) (e : selects_only any f ≡ true). seen_alike s vars h any (concrete c) (answer c)
    (concrete' c) (answer' c) (same_type c) (λ m g args p. same_reply c m g args) T root f e in (
      λ q c r after o. outcome-seen s h concrete answer concrete' answer' same_type any (λ d m g args p. same_reply d m g args) tell disabled root
          (h root) steps stands q (λ d o' vars b. selects-any (selected d o' vars)) c r after o,
      λ x c r after o. known-seen s h concrete answer concrete' answer' same_type any (λ d m g args p. same_reply d m g args) tell disabled root
          (h root) steps stands x (λ d o' vars b. selects-any (selected d o' vars)) c r after o,
    )

-- where introspection is disabled, what runs selects users' fields alone
looks-nowhere : {C N : Type 0} (S : Service C N) → S.introspection_disabled ≡ true → (q : Request) (d : Document) (o : Operation) (vars : Variables) →
    Becomes S q (runs d o vars) → selects_only is_users_field (selected d o vars) ≡ true
looks-nowhere S off q d o vars (read, text, e) = disabled_looks_nowhere S.schema q.operation q.variables read d o vars
    (subst (λ (b : Bool). of_document S.schema b q.operation q.variables read ≡ runs d o vars) off e)

pub users_outcomes : {C N : Type 0} → UsersOutcomes C N
unfolding rooted_service rooted_concrete rooted_world
users_outcomes S off tell q c r after =
    let s : Schema = S.schema in
    let same_type = λ (d : _) (n : _). refl in
    let same_reply = λ (d n : _) (f : Name) (args : Members) (p : IsTrue (is_users_field f)). sym (users_answer s S.root (S.answer d) n f args p) in
    let stands = λ (d : _) (vars : Variables) (T : Name) (f : Forest) (e : selects_only is_users_field f ≡ true). users_execute s vars S.root (S.concrete d)
    (S.answer d) T f e in
    let looks = λ (d : Document) (o : Operation) (vars : Variables) (b : Becomes S q (runs d o vars)). looks-nowhere S off q d o vars b in (
      λ o. outcome-back s user S.concrete S.answer (λ d. rooted_concrete S.root (S.concrete d))
          (λ d. rooted_answer S.root s (S.answer d)) same_type is_users_field same_reply tell S.introspection_disabled S.root top_node S.mutation stands q looks
          c r after o,
      λ o. outcome-seen s user S.concrete S.answer (λ d. rooted_concrete S.root (S.concrete d))
          (λ d. rooted_answer S.root s (S.answer d)) same_type is_users_field same_reply tell S.introspection_disabled S.root top_node S.mutation stands q looks
          c r after o,
    )
