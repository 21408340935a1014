-- What validity gives to execution: fragments that end, fields that are declared, selections that merge (5, 6.3).
use Rattle.std.specs.Prelude.{ℕ, zero, suc, Bool, true, List, [], ◌∷◌, ◌++◌, Option, Some, None, ◌≡◌, IsTrue}
use Rattle.std.specs.Option.{is_some}
use Rattle.graphql_spec.specs.Shown.{Name}
use Rattle.graphql_spec.specs.Types.{named, innermost}
use Rattle.graphql_spec.specs.Inputs.{Variables}
use Rattle.graphql_spec.specs.Constants.{Members}
use Rattle.graphql_spec.specs.Documents.{Directive, Selections, end, field, spread, inline, OperationType, Operation, Definition, operation, fragment, Document}
use Rattle.graphql_spec.specs.Documents.{fragments, name_or, response_key}
use Rattle.graphql_spec.specs.Fragments.{fragment_of, plain, filled, expand, spreads, HasNoCycle}
use Rattle.graphql_spec.specs.Schema.{Schema}
use Rattle.graphql_spec.specs.Fields.{field_of, declared_type, is_possible}
use Rattle.graphql_spec.specs.Executable.{is_executable}
use Rattle.graphql_spec.specs.Written.{selections_of}
use Rattle.graphql_spec.specs.Placed.{root_type}
use Rattle.graphql_spec.specs.Selections.{Forest, chain, Occurrence, occurrences}
use Rattle.graphql_spec.specs.Resolvers.{Reply, World, world_of}
use Rattle.graphql_spec.specs.Values.{join}
use Rattle.graphql_spec.specs.Execution.{value_of}
use Rattle.graphql_spec.specs.Laws.{In, Agree, Merges}
use Rattle.graphql_spec.specs.Requests.{runs, of_document, selected}
use Rattle.graphql_spec.specs.Overlap.{fields, MayMerge, names_object, declares_field}
use Rattle.graphql_spec.specs.Rules.{at_each, name_errors, rule_errors}

-- a selection set with the type that it stands on
pub record PlacedSet : Type 0 where
  pub parent : Name
  pub selections : Selections

module _ (s : Schema) where
  -- what each field and each inline fragment selects, at any depth, below selections on the type p; a field without a set
  -- selects nothing
  unfoldable pub sets_below : Name → Selections → List PlacedSet
  sets_below p end = []
  sets_below p (field h below rest) = let q : Name = innermost (declared_type (field_of s p h.name.item)) in
      record { parent = q; selections = below } ∷ (sets_below q below ++ sets_below p rest)
  sets_below p (spread x rest) = sets_below p rest
  sets_below p (inline x below rest) = let q : Name = name_or x.condition p in
      record { parent = q; selections = below } ∷ (sets_below q below ++ sets_below p rest)

  -- a set, and each below it
  unfoldable pub sets_from : Name → Selections → List PlacedSet
  sets_from p set = record { parent = p; selections = set } ∷ sets_below p set

  -- each selection set of the definition; none where an operation's root type is absent
  unfoldable pub sets_in : Definition → List PlacedSet
  sets_in (operation o) = elim (root_type s o.kind) [ None ↦ [] | Some p ↦ sets_from p o.selections ]
  sets_in (fragment f) = sets_from f.condition.item f.selections

-- the rules on names find nothing
abbrev pub HasGoodNames : Schema → Bool → Document → Type 0
HasGoodNames s disabled d = at_each (name_errors s disabled d) [] d ≡ []

-- all rules find nothing
abbrev pub IsValidDocument : Schema → Bool → Document → Type 0
IsValidDocument s disabled d = rule_errors s disabled d ≡ []

-- ## Fragments

-- where the rules on names find nothing, no fragment reaches itself (5.5.2.2)
abbrev pub NamesEndSpreads : Type 0
NamesEndSpreads = (s : Schema) (disabled : Bool) (d : Document) → HasGoodNames s disabled d → HasNoCycle (fragments d)

-- so each spread stands for its fragment, and that is expanded in turn
abbrev pub NamesExpandInPlace : Type 0
NamesExpandInPlace = (s : Schema) (disabled : Bool) (d : Document) → HasGoodNames s disabled d → (test : Directive → Bool) (set : Selections) →
    expand test (fragments d) set ≡ plain test (λ k. filled (expand test (fragments d)) (fragment_of (fragments d) k)) set

-- and each spread that is written has a fragment (5.5.2.1)
abbrev pub NamesKnowSpreads : Type 0
NamesKnowSpreads =
    (s : Schema) (disabled : Bool) (d : Document) → HasGoodNames s disabled d → (x : Definition) → In x d → (k : Name) → In k (spreads (selections_of x)) →
    IsTrue (is_some (fragment_of (fragments d) k))

-- ## Merging

-- where all rules find nothing, each selection set of the document merges as it is written, to every depth (5.3.2)
abbrev pub ValidSetsMayMerge : Type 0
ValidSetsMayMerge = (s : Schema) (disabled : Bool) (d : Document) → IsValidDocument s disabled d →
    (x : Definition) → In x d → (set : PlacedSet) → In set (sets_in s x) → (n : ℕ) →
    MayMerge (λ T f. declared_type (field_of s T f)) (names_object s) (declares_field s) n (fields set.parent (expand (λ y. true) (fragments d) set.selections))

-- so on a schema that can be executed it merges for each object type, whatever the variables, the resolver and the directives
abbrev pub ValidSetsMerge : Type 0 → Type 0
ValidSetsMerge N = (s : Schema) → IsTrue (is_executable s) → (disabled : Bool) (d : Document) → IsValidDocument s disabled d →
    (vars : Variables) (concrete : N → Name) (answer : N → Name → Members → Reply N) (passes : Directive → Bool) →
    (x : Definition) → In x d → (set : PlacedSet) → In set (sets_in s x) →
    Merges (world_of s vars concrete answer) set.parent (expand passes (fragments d) set.selections)

-- and so does what an operation selects on its root type
abbrev pub ValidOperationsMerge : Type 0 → Type 0
ValidOperationsMerge N = (s : Schema) → IsTrue (is_executable s) → (disabled : Bool) (d : Document) → IsValidDocument s disabled d →
    (vars : Variables) (concrete : N → Name) (answer : N → Name → Members → Reply N) (passes : Directive → Bool) →
    (o : Operation) → In (operation o) d → (root : Name) → root_type s o.kind ≡ Some root →
    Merges (world_of s vars concrete answer) root (expand passes (fragments d) o.selections)

-- ## Fields

-- to the depth d, each occurrence for the object type T is a field of T, and so is what it selects for each object type that
-- is possible there
abbrev pub AreDeclared : Schema → ℕ → Name → List Occurrence → Type 0
AreDeclared s zero T os = Unit {0}
AreDeclared s (suc d) T os = (o : Occurrence) → In o os → IsTrue (declares_field s T o.head.name.item)
    × ((U : Name) → IsTrue (is_possible s U (innermost (declared_type (field_of s T o.head.name.item)))) →
    AreDeclared s d U (occurrences (is_possible s) U o.below))

-- where all rules find nothing, what is selected on a type is fields of each object type that is possible there, to every depth
-- (5.3.1)
abbrev pub ValidFieldsAreDeclared : Type 0
ValidFieldsAreDeclared = (s : Schema) → IsTrue (is_executable s) → (disabled : Bool) (d : Document) → IsValidDocument s disabled d →
    (passes : Directive → Bool) (x : Definition) → In x d → (set : PlacedSet) → In set (sets_in s x) → (T : Name) → IsTrue (is_possible s T set.parent) →
    (n : ℕ) →
    AreDeclared s n T (occurrences (is_possible s) T (expand passes (fragments d) set.selections))

-- ## Joining

-- to the depth d, of each two occurrences of one response key for the object type T: whatever is answered, the value for what
-- both select is that of the one joined with that of the other; and so is what they select for each object type that is
-- possible there
abbrev pub JoinBelow : {N : Type 0} → World N → ℕ → Name → List Occurrence → Type 0
JoinBelow W zero T os = Unit {0}
JoinBelow {N} W (suc d) T os = (x y : Occurrence) → In x os → In y os → response_key x.head ≡ response_key y.head →
    ((r : Reply N) → value_of W (W.field_type T x.head.name.item) r (chain x.below y.below)
    ≡ join (value_of W (W.field_type T x.head.name.item) r x.below) (value_of W (W.field_type T x.head.name.item) r y.below))
    × ((U : Name) → IsTrue (W.possible U (innermost (W.field_type T x.head.name.item))) → JoinBelow W d U (occurrences W.possible U (chain x.below y.below)))

-- ## Requests

-- in a schema that can be executed a root type is an object type (3.3.1)
abbrev pub RootsAreObjects : Type 0
RootsAreObjects = (s : Schema) → IsTrue (is_executable s) → (k : OperationType) (root : Name) → root_type s k ≡ Some root → IsTrue (is_possible s root root)

module _ (s : Schema) (disabled : Bool) (n : Option Name) (given : Variables) (text : Option Document) (d : Document) (o : Operation) (vars : Variables) where
  -- a request that runs is of a valid document, and runs an operation of it that has a root type (6.1)
  abbrev pub RunIsValid : Type 0
  RunIsValid = of_document s disabled n given text ≡ runs d o vars →
      (text ≡ Some d) × IsValidDocument s disabled d × In (operation o) d × ((root : Name) × (root_type s o.kind ≡ Some root))

  -- so of what it selects on the root type all occurrences of a response key agree, to every depth, and each is declared
  abbrev pub RunAgrees : Type 0 → Type 0
  RunAgrees N = of_document s disabled n given text ≡ runs d o vars → IsTrue (is_executable s) →
      (concrete : N → Name) (answer : N → Name → Members → Reply N) (root : Name) → root_type s o.kind ≡ Some root → (depth : ℕ) →
      Agree (world_of s vars concrete answer) depth root (occurrences (is_possible s) root (selected d o vars))
      × AreDeclared s depth root (occurrences (is_possible s) root (selected d o vars))

  -- and resolving one part of it and another and joining the answers is resolving both at once
  abbrev pub RunJoins : Type 0 → Type 0
  RunJoins N = of_document s disabled n given text ≡ runs d o vars → IsTrue (is_executable s) →
      (concrete : N → Name) (answer : N → Name → Members → Reply N) (root : Name) → root_type s o.kind ≡ Some root →
      (one other : Forest) → selected d o vars ≡ chain one other → (q : Bool) (r : Reply N) →
      value_of (world_of s vars concrete answer) (named q root) r (selected d o vars)
      ≡ join (value_of (world_of s vars concrete answer) (named q root) r one) (value_of (world_of s vars concrete answer) (named q root) r other)

  -- and so it is at every depth
  abbrev pub RunJoinsBelow : Type 0 → Type 0
  RunJoinsBelow N = of_document s disabled n given text ≡ runs d o vars → IsTrue (is_executable s) →
      (concrete : N → Name) (answer : N → Name → Members → Reply N) (root : Name) → root_type s o.kind ≡ Some root → (depth : ℕ) →
      JoinBelow (world_of s vars concrete answer) depth root (occurrences (is_possible s) root (selected d o vars))

-- each request that runs does
abbrev pub RunsAreValid : Type 0
RunsAreValid = (s : Schema) (disabled : Bool) (n : Option Name) (given : Variables) (text : Option Document) (d : Document) (o : Operation) (vars : Variables) →
    RunIsValid s disabled n given text d o vars

abbrev pub RunsAgree : Type 0 → Type 0
RunsAgree N = (s : Schema) (disabled : Bool) (n : Option Name) (given : Variables) (text : Option Document) (d : Document) (o : Operation) (vars : Variables) →
    RunAgrees s disabled n given text d o vars N

abbrev pub RunsJoin : Type 0 → Type 0
RunsJoin N = (s : Schema) (disabled : Bool) (n : Option Name) (given : Variables) (text : Option Document) (d : Document) (o : Operation) (vars : Variables) →
    RunJoins s disabled n given text d o vars N

abbrev pub RunsJoinBelow : Type 0 → Type 0
RunsJoinBelow N = (s : Schema) (disabled : Bool) (n : Option Name) (given : Variables) (text : Option Document) (d : Document) (o : Operation)
    (vars : Variables) → RunJoinsBelow s disabled n given text d o vars N
