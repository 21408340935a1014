-- A request that runs is of a valid document.
use Rattle.std.specs.Prelude.{ℕ, zero, suc, true, List, [], ◌∷◌, ◌≡◌, ◌⊎◌, cond, Option, Some, None, IsTrue}
use Rattle.std.specs.Option.{is_some}
use Rattle.std.proofs.lemmas.Bool.{cases_Bool, and_parts, and_from, or_left}
use Rattle.std.proofs.Common.{refl, sym, ap, ◌∙◌, inl, inr, subst}
use Rattle.graphql_spec.specs.Shown.{Name}
use Rattle.graphql_spec.specs.Types.{named, innermost}
use Rattle.graphql_spec.specs.Inputs.{Variables}
use Rattle.graphql_spec.specs.Documents.{Operation, OperationType, query, mutation, subscription, operation, fragment, Document, operations, variables_of}
use Rattle.graphql_spec.specs.Directives.{passes}
use Rattle.graphql_spec.specs.Schema.{Schema}
use Rattle.graphql_spec.specs.Fields.{entry_named, type_named, is_object, is_possible}
use Rattle.graphql_spec.specs.Executable.{entries_are_named, mutation_is_apart, roots_are_objects, is_executable}
use Rattle.graphql_spec.specs.Placed.{root_type}
use Rattle.graphql_spec.proofs.Lists.{same_refl, occurrences-chain}
use Rattle.std.specs.Str.{bytes_eq}
use Rattle.graphql_spec.specs.Resolvers.{World, world_of}
use Rattle.graphql_spec.specs.Execution.{value_of}
use Rattle.graphql_spec.specs.Rules.{RuleError, rule_errors}
use Rattle.graphql_spec.specs.Requests.{Choice, chosen, many, unknown, is_named, choose_named, choose_only, choose, coerced_variables, variable_errors}
use Rattle.graphql_spec.specs.Requests.{first_not_constant, Outcome, refused, runs, of_kind, if_constant, if_valid, of_operation, of_choice, of_document}
use Rattle.graphql_spec.specs.Requests.{selected}
use Rattle.graphql_spec.specs.Selections.{Occurrence, chain, occurrences}
use Rattle.graphql_spec.specs.Laws.{In, Agree, Merges}
use Rattle.graphql_spec.specs.ValidityLaws.{IsValidDocument, RootsAreObjects, RunsAreValid, RunsAgree, RunsJoin, JoinBelow, RunsJoinBelow}
use Rattle.graphql_spec.proofs.Whole.{values_join}
use Rattle.graphql_spec.proofs.KnownSpreads.{there}
use Rattle.graphql_spec.proofs.KeptTypes.{object_type_named}
use Rattle.graphql_spec.proofs.ValidFields.{operation_is_declared}
use Rattle.graphql_spec.proofs.ValidSets.{valid_operations_merge}

-- ## The operation

only-in : (os : List Operation) (o : Operation) → choose_only os ≡ chosen o → In o os
unfolding choose_only
only-in [] o e = cc
only-in (p ∷ []) o e = let q : p ≡ o = cc in inl (sym q)
only-in (p ∷ (q ∷ os)) o e = cc

named-in : (n : Name) (os : List Operation) (c : Choice) (o : Operation) → choose_named n os c ≡ chosen o → In o os ⊎ (c ≡ chosen o)
unfolding choose_named
named-in n [] c o e = inr e
named-in n (p ∷ os) c o e = elim (named-in n os (cond (is_named n p) (chosen p) c) o e) [
  | inl i ↦ inl (inr i)
  | inr q ↦ elim (cases_Bool (is_named n p)) [
    | inl t ↦ let r : chosen p ≡ chosen o = rw t at q in inl (inl (sym (same r)))
    | inr t ↦ inr (rw t at q)
  ]
]
  where
    same : {p o : Operation} → chosen p ≡ chosen o → p ≡ o
    same r = cc

operations-in : (d : Document) (o : Operation) → In o (operations d) → In (operation o) d
unfolding operations
operations-in [] o i = absurd i
operations-in (operation p ∷ d) o (inl e) = inl (ap operation e)
operations-in (operation p ∷ d) o (inr i) = inr (operations-in d o i)
operations-in (fragment f ∷ d) o i = inr (operations-in d o i)

pub choice-in : (d : Document) (n : Option Name) (o : Operation) → choose d n ≡ chosen o → In (operation o) d
unfolding choose
choice-in d None o e = operations-in d o (only-in (operations d) o e)
choice-in d (Some n) o e = elim (named-in n (operations d) unknown o e) [ inl i ↦ operations-in d o i | inr q ↦ other q ]
  where
    other : {o : Operation} {A : Type 0} → unknown ≡ chosen o → A
    other q = cc

-- ## The steps

-- what runs of an outcome
abbrev Runs : Outcome → Document → Operation → Variables → Type 0
Runs x d o vars = x ≡ runs d o vars

valid-runs : (es : List RuleError) (x : Outcome) (d : Document) (o : Operation) (vars : Variables) → Runs (if_valid es x) d o vars → (es ≡ []) × Runs x d o vars
unfolding if_valid
valid-runs [] x d o vars e = (refl, e)
valid-runs (z ∷ es) x d o vars e = cc

constant-runs : (c : Option Name) (x : Outcome) (d : Document) (o : Operation) (vars : Variables) → Runs (if_constant c x) d o vars → Runs x d o vars
unfolding if_constant
constant-runs None x d o vars e = e
constant-runs (Some n) x d o vars e = cc

kind-runs : (s : Schema) (k : OperationType) (x : Outcome) (d : Document) (o : Operation) (vars : Variables) → Runs (of_kind s k x) d o vars →
    Runs x d o vars × ((root : Name) × (root_type s k ≡ Some root))
unfolding of_kind root_type
kind-runs s query x d o vars e = (e, (s.query, refl))
kind-runs s mutation x d o vars e = elim (cases_Bool (is_some s.mutation)) [
  | inl t ↦ (rw t at e, there s.mutation t)
  | inr t ↦ absurd (lost (rw t at e))
]
  where
    lost : {r : _} {d : Document} {o : Operation} {vars : Variables} → refused r ≡ runs d o vars → ⊥
    lost e = cc
kind-runs s subscription x d o vars e = cc

same-runs : (d e : Document) (o p : Operation) (v w : Variables) → runs d o v ≡ runs e p w → (d ≡ e) × (o ≡ p) × (v ≡ w)
same-runs d e o p v w q = (cc, cc, cc)

operation-runs : (s : Schema) (given : Variables) (d : Document) (p : Operation) (e : Document) (o : Operation) (vars : Variables) →
    Runs (of_operation s given d p) e o vars →
    (d ≡ e) × (p ≡ o) × ((root : Name) × (root_type s p.kind ≡ Some root))
unfolding of_operation
operation-runs s given d p e o vars q =
    let a = valid-runs (variable_errors s (variables_of p) given) _ e o vars q in
    let b = constant-runs (first_not_constant (variables_of p) given) _ e o vars a.1 in
    let c = kind-runs s p.kind (runs d p (coerced_variables (variables_of p) given)) e o vars b in
    let f = same-runs d e p o (coerced_variables (variables_of p) given) vars c.0 in
    (f.0, f.1, c.1)

choice-runs : (s : Schema) (given : Variables) (d : Document) (c : Choice) (e : Document) (o : Operation) (vars : Variables) →
    Runs (of_choice s given d c) e o vars →
    (c ≡ chosen o) × (d ≡ e) × ((root : Name) × (root_type s o.kind ≡ Some root))
unfolding of_choice
choice-runs s given d (chosen p) e o vars q =
    let a = operation-runs s given d p e o vars q in
    (ap chosen a.1, a.0, subst (λ z. (root : Name) × (root_type s z.kind ≡ Some root)) a.1 a.2)
choice-runs s given d many e o vars q = cc
choice-runs s given d unknown e o vars q = cc

-- ## Root types

object-there : (s : Schema) (n : Name) → is_object (entry_named s n) ≡ true → IsTrue (is_possible s n n)
unfolding is_possible
object-there s n e = and_from (is_object (type_named s n)) _ (object_type_named s n e) (or_left (bytes_eq n n) _ (same_refl n))

pub roots_are_possible : RootsAreObjects
unfolding root_type is_executable roots_are_objects mutation_is_apart
roots_are_possible s e query root r =
    let a = and_parts (entries_are_named s) _ e in
    let b = and_parts (roots_are_objects s) _ a.1 in
    let c = and_parts (is_object (entry_named s s.query)) _ b.0 in
    let q : s.query ≡ root = cc in
    subst (λ z. IsTrue (is_possible s z z)) q (object-there s s.query c.0)
roots_are_possible s e mutation root r =
    let a = and_parts (entries_are_named s) _ e in
    let b = and_parts (roots_are_objects s) _ a.1 in
    let c = and_parts (is_object (entry_named s s.query)) _ b.0 in
    let m : mutation_is_apart s (Some root) ≡ true = subst (λ z. mutation_is_apart s z ≡ true) r c.1 in
    object-there s root (and_parts (is_object (entry_named s root)) _ m).0
roots_are_possible s e subscription root r = cc

-- ## The laws

pub runs_are_valid : RunsAreValid
unfolding of_document
runs_are_valid s disabled n given None d o vars e = cc
runs_are_valid s disabled n given (Some c) d o vars e =
    let a = valid-runs (rule_errors s disabled c) (of_choice s given c (choose c n)) d o vars e in
    let b = choice-runs s given c (choose c n) d o vars a.1 in
    (ap Some b.1, subst (IsValidDocument s disabled) b.1 a.0, subst (λ z. In (operation o) z) b.1 (choice-in c n o b.0), b.2)

pub runs_agree : {N : Type 0} → RunsAgree N
unfolding selected world_of
runs_agree s disabled n given text d o vars e executable concrete answer root r depth =
    let v = runs_are_valid s disabled n given text d o vars e in
    let p = roots_are_possible s executable o.kind root r in (
      valid_operations_merge s executable disabled d v.1 vars concrete answer (passes vars) o v.2 root r depth root p,
      operation_is_declared s executable disabled d v.1 (passes vars) o v.2 root r root p depth,
    )

pub runs_join : {N : Type 0} → RunsJoin N
unfolding selected innermost
runs_join s disabled n given text d o vars e executable concrete answer root r one other split q reply =
    let v = runs_are_valid s disabled n given text d o vars e in
    let m : Merges (world_of s vars concrete answer) root (selected d o vars) = valid_operations_merge s executable disabled d v.1 vars concrete answer
    (passes vars) o v.2 root r in
    ap (value_of (world_of s vars concrete answer) (named q root) reply) split
    ∙ values_join (world_of s vars concrete answer) (named q root) reply one other (subst (Merges (world_of s vars concrete answer) root) split m)

-- ## Below the root

-- what agrees to every depth joins to every depth
agreeing-join : {N : Type 0} (W : World N) (d : ℕ) (T : Name) (os : List Occurrence) → ((n : ℕ) → Agree W n T os) → JoinBelow W d T os
agreeing-join W zero T os a = tt
agreeing-join W (suc d) T os a = λ x y i j k.
    let both : Merges W (innermost (W.field_type T x.head.name.item)) (chain x.below y.below) =
    λ n U p. subst (Agree W n U) (sym (occurrences-chain W.possible U x.below y.below)) ((a (suc n) x y i j k).2 U p) in (
      λ r. values_join W (W.field_type T x.head.name.item) r x.below y.below both,
      λ U p. agreeing-join W d U (occurrences W.possible U (chain x.below y.below)) (λ n. both n U p),
    )

pub runs_join_below : {N : Type 0} → RunsJoinBelow N
unfolding world_of
runs_join_below s disabled n given text d o vars e executable concrete answer root r depth =
    agreeing-join (world_of s vars concrete answer) depth root (occurrences (is_possible s) root (selected d o vars))
    (λ n'. (runs_agree s disabled n given text d o vars e executable concrete answer root r n').0)
