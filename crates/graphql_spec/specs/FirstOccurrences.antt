-- Answers that tell each failure at the first of its field's occurrences (6.4.4, 7.1.2).
use Rattle.std.specs.Prelude.{◌≡◌, Bool, false, IsTrue, List, [], ◌∷◌, map}
use Rattle.graphql_spec.specs.Shown.{Name}
use Rattle.graphql_spec.specs.Positions.{Position}
use Rattle.graphql_spec.specs.Values.{Value, is_null}
use Rattle.graphql_spec.specs.Types.{named}
use Rattle.graphql_spec.specs.Errors.{Place, Listed, is_sorted}
use Rattle.graphql_spec.specs.Selections.{Forest, keys}
use Rattle.graphql_spec.specs.Resolvers.{World}
use Rattle.graphql_spec.specs.Execution.{data_of}
use Rattle.graphql_spec.specs.Failures.{Failure, failures_of}
use Rattle.graphql_spec.specs.Nulls.{null_or, nulls_of}
use Rattle.graphql_spec.specs.Mutation.{Mutation, data_of_run, mutation_run, mutation_nulls, root_fields}
use Rattle.graphql_spec.specs.Laws.{In}
use Rattle.graphql_spec.specs.Walk.{Met, count_listed, IsAnswer}
use Rattle.graphql_spec.specs.GroupLaws.{for_picked, first_start}
use Rattle.graphql_spec.specs.MutationLaws.{HasRun}
use Rattle.graphql_spec.specs.ExactAnswers.{whole, PathsDiffer, TellsExactly}

-- the error is that of a failure, at its exact place and at the first of its field's occurrences (7.1.2)
abbrev pub IsFirstErrorOf : Listed → Failure → Type 0
IsFirstErrorOf x f = (x.path ≡ f.path) × (x.error ≡ f.error) × ((others : List Position) × (f.starts ≡ x.start ∷ others))

-- each listed error is that of a failure, so placed, no two are of one place, and each null that stands for a failure has one, of a
-- failure that rises to its exact place (6.4.4, 7.1.2)
pub record TellsFirsts (es : List Listed) (fs : List Failure) (stands : List Place) : Type 0 where
  pub belongs : (x : Listed) → In x es → (f : Failure) × In f fs × IsFirstErrorOf x f
  pub once : PathsDiffer es
  pub explained : (to : Place) → In to stands → (x : Listed) × In x es × ((f : Failure) × In f fs × IsFirstErrorOf x f × (f.rises_to ≡ to))

-- that is what a list says that tells the failures exactly, each with the first of its field's occurrences alone (7.1.2); and it says
-- that of the failures with all of them, too
abbrev pub FirstsTell : Type 0
FirstsTell = (es : List Listed) (fs : List Failure) (stands : List Place) → TellsExactly es (map (for_picked first_start) fs) stands →
    TellsFirsts es fs stands × TellsExactly es fs stands

-- what was listed so on a walk over a whole request is, once it is sorted, an answer to the failures that are told so (6.2.1)
abbrev pub FirstsAnswer : {N : Type 0} → World N → Type 0
FirstsAnswer {N} W = (T : Name) (m : N) (s : Forest) (value : Value) (es ds : List Listed) → value ≡ data_of W T m s →
    Met whole (is_null value) es (map (for_picked first_start) (failures_of W [] [] T m s)) [] (nulls_of W [] T m s) →
    ((p : Listed → Bool) → count_listed p ds ≡ count_listed p es) → IsTrue (is_sorted ds) →
    IsAnswer whole (data_of W T m s) (map (for_picked first_start) (failures_of W [] [] T m s))
    (null_or [] (named false []) (data_of W T m s) (nulls_of W [] T m s)) value ds

-- the same of a mutation's run (6.2.2)
abbrev pub FirstsAnswerRuns : {C N : Type 0} → Mutation C N → Name → Type 0
FirstsAnswerRuns {C} M T = (s : Forest) (c after : C) (value : Value) (es ds : List Listed) →
    HasRun whole first_start M T (keys (root_fields M T s c)) (root_fields M T s c) c value es after →
    ((p : Listed → Bool) → count_listed p ds ≡ count_listed p es) → IsTrue (is_sorted ds) →
    IsAnswer whole (data_of_run (mutation_run M T s c)) (map (for_picked first_start) (mutation_run M T s c).failures) (mutation_nulls M T s c) value ds
