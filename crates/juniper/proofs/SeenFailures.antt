-- What fails with the nodes that code holds fails with the nodes that they are seen as.
use Rattle.std.proofs.Common.{◌≡◌, Bool, true, false, List, [], Option, None, Some, option_map, sym, ap, ap₂, ◌∙◌, inl, inr}
use Rattle.graphql_spec.specs.Shown.{Name}
use Rattle.graphql_spec.specs.Inputs.{Variables}
use Rattle.graphql_spec.specs.Constants.{Members}
use Rattle.graphql_spec.specs.Documents.{OperationType, query, mutation, subscription}
use Rattle.graphql_spec.specs.Schema.{Schema}
use Rattle.graphql_spec.specs.Types.{named}
use Rattle.graphql_spec.specs.Fields.{is_possible}
use Rattle.graphql_spec.specs.Values.{Value}
use Rattle.graphql_spec.specs.Errors.{Place}
use Rattle.graphql_spec.specs.Selections.{Forest, Occurrence, occurrences, keys}
use Rattle.graphql_spec.specs.Resolvers.{Reply, world_of}
use Rattle.graphql_spec.specs.Failures.{Failure}
use Rattle.graphql_spec.specs.Nulls.{null_or}
use Rattle.graphql_spec.specs.Mutation.{Mutation, Run, run, run_nulls, data_of_run, mutation_run, mutation_nulls}
use Rattle.graphql_spec.specs.Requests.{Outcome}
use Rattle.graphql_spec.specs.Outcomes.{Response, Service, Steps, refuses, responds, out_of_memory}
use Rattle.graphql_spec.specs.OutcomeLaws.{FailIn, StandIn}
use Rattle.graphql_spec.specs.SeenNodes.{map_reply, IsSameRun}
use Rattle.graphql_spec.specs.SeenServices.{seen_steps, mutation_of, service}
use Rattle.graphql_spec.proofs.Keeping.{options}
use Rattle.graphql_spec.proofs.SeenNodes.{seen_alike, selects-any, selects-occurrences}
use Rattle.graphql_spec.proofs.SeenRuns.{run-seen, run_nulls-seen}
use Rattle.juniper.specs.Promised.{ListsFirsts}

module _ {C M N : Type 0} (s : Schema) (h : M → N) (concrete : C → M → Name) (answer : C → M → Name → Members → Reply M)
    (concrete' : C → N → Name) (answer' : C → N → Name → Members → Reply N) (same_type : (c : C) (m : M) → concrete c m ≡ concrete' c (h m))
    (same_reply : (c : C) (m : M) (f : Name) (args : Members) → map_reply h (answer c m f args) ≡ answer' c (h m) f args)
    (disabled : Bool) (root : M) (steps : Option (Steps C M)) where
  abbrev V : Service C M
  V = service s disabled concrete answer root steps

  abbrev W : Service C N
  W = service s disabled concrete' answer' (h root) (option_map (seen_steps h) steps)

  every : Name → Bool
  every f = true

  all-same : (c : C) (vars : Variables) (T : Name) (f : Forest) →
      IsSameRun (world_of s vars (concrete c) (answer c)) (world_of s vars (concrete' c) (answer' c)) T root (h root) f
  unfolding every
  all-same c vars T f =
      seen_alike s vars h every (concrete c) (answer c) (concrete' c) (answer' c) (same_type c) (λ m g args p. same_reply c m g args) T root f (selects-any f)

  module _ (vars : Variables) (m : Steps C M) (T : Name) (f : Forest) (c : C) where
    abbrev before : Mutation C M
    before = mutation_of s vars concrete answer m

    abbrev behind : Mutation C N
    behind = mutation_of s vars concrete' answer' (seen_steps h m)

    abbrev os : List Occurrence
    os = occurrences (is_possible s) T f

    run-same : run before T (keys os) os c ≡ run behind T (keys os) os c
    unfolding every
    run-same = run-seen s vars h concrete answer concrete' answer' same_type every (λ d m' g args p. same_reply d m' g args) m T (keys os) os
        (selects-occurrences every (is_possible s) T f (selects-any f)) c

    nulls-same : run_nulls before T (keys os) os c ≡ run_nulls behind T (keys os) os c
    unfolding every
    nulls-same = run_nulls-seen s vars h concrete answer concrete' answer' same_type every (λ d m' g args p. same_reply d m' g args) m T (keys os) os
        (selects-occurrences every (is_possible s) T f (selects-any f)) c

    -- a mutation's failures, and the nulls that stand for them
    run-fails : (mutation_run behind T f c).failures ≡ (mutation_run before T f c).failures
    unfolding mutation_of world_of
    run-fails = ap (λ (r : Run C). r.failures) (sym run-same)

    run-stands : mutation_nulls behind T f c ≡ mutation_nulls before T f c
    unfolding mutation_of world_of
    run-stands = ap₂ (λ (x : Value) (xs : List Place). null_or [] (named false []) x xs) (ap (λ (r : Run C). data_of_run r) (sym run-same)) (sym nulls-same)

  -- the steps whose replies are seen so
  has-seen : (m' : Steps C N) → option_map (seen_steps h) steps ≡ Some m' → (m : Steps C M) × (steps ≡ Some m) × (seen_steps h m ≡ m')
  has-seen m' e = elim (options steps) [
    | inl q ↦ let z : None ≡ Some m' = rw q at e in absurd (cc)
    | inr (m, q) ↦ let z : Some (seen_steps h m) ≡ Some m' = rw q at e in (m, q, cc)
  ]

  fail-back : (k : OperationType) (vars : Variables) (f : Forest) (c : C) (fs : List Failure) → FailIn W k vars f c fs → FailIn V k vars f c fs
  unfolding mutation_of
  fail-back query vars f c fs e = e ∙ sym ((all-same c vars s.query f).failures_are [] [])
  fail-back mutation vars f c fs (m', T, (has, at), e) =
      let (m, q, z) = has-seen m' has in (
        m,
        T,
        (q, at),
        e ∙ (ap (λ (k : Steps C N). (mutation_run (mutation_of s vars concrete' answer' k) T f c).failures) (sym z) ∙ run-fails vars m T f c),
      )
  fail-back subscription vars f c fs e = absurd e

  stand-back : (k : OperationType) (vars : Variables) (f : Forest) (c : C) (ps : List Place) → StandIn W k vars f c ps → StandIn V k vars f c ps
  unfolding mutation_of
  stand-back query vars f c ps e =
      let r = all-same c vars s.query f in
      e ∙ ap₂ (λ (x : Value) (xs : List Place). null_or [] (named false []) x xs) (sym r.data_is) (sym (r.nulls_are []))
  stand-back mutation vars f c ps (m', T, (has, at), e) =
      let (m, q, z) = has-seen m' has in (
        m,
        T,
        (q, at),
        e ∙ (ap (λ (k : Steps C N). mutation_nulls (mutation_of s vars concrete' answer' k) T f c) (sym z) ∙ run-stands vars m T f c),
      )
  stand-back subscription vars f c ps e = absurd e

  -- what tells each failure at the first of its field's occurrences does so for the nodes that are seen
  pub firsts-seen : (becomes : Outcome → Type 0) (c : C) (x : Response) → ListsFirsts V becomes c x → ListsFirsts W becomes c x
  firsts-seen becomes c (refuses r) l = tt
  firsts-seen becomes c (responds v es) l = λ d o vars r fs stands fail stand.
      l d o vars r fs stands (fail-back o.kind vars _ c fs fail) (stand-back o.kind vars _ c stands stand)
  firsts-seen becomes c out_of_memory l = tt
