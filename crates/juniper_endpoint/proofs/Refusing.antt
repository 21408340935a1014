-- A request that is refused has an error that is told.
use Rattle.std.proofs.Common.{◌≡◌, ◌≢◌, Bool, true, false, cond, List, [], ◌∷◌, Option, Some, None, refl, subst}
use Rattle.std.specs.Option.{is_some}
use Rattle.graphql_spec.specs.Documents.{Document, Operation, OperationType, query, mutation, subscription, variables_of}
use Rattle.graphql_spec.specs.Inputs.{Variables}
use Rattle.graphql_spec.specs.Outcomes.{Request, Service, refuses, Becomes}
use Rattle.graphql_spec.specs.Requests as spec
use Rattle.graphql_spec.specs.Requests.{Choice, chosen, many, unknown, choose, Outcome, refused, runs, of_kind, if_constant, if_valid, of_operation, of_choice}
use Rattle.graphql_spec.specs.Requests.{of_document, coerced_variables, variable_errors, first_not_constant, Refusal}
use Rattle.graphql_spec.specs.Rules.{RuleError, rule_errors}
use Rattle.graphql_spec.specs.Schema.{Schema}
use Rattle.graphql_spec.specs.Shown.{Name}
use Rattle.juniper.specs.Answering.{refusal_of}
use Rattle.juniper.specs.Promised.{IsFullOutcome}
use Rattle.juniper.specs.RequestErrors.{RequestError, not_parsed, not_valid, no_operation, multiple_operations, unknown_operation}
use Rattle.juniper.specs.RequestErrors.{is_subscription, not_subscription, no_mutation_type, variable_not_constant, out_of_memory}
use Rattle.juniper_json.specs.Refusals.{refusals_of}
use Rattle.juniper_json.specs.RefusalText as lines
use Rattle.juniper_json.specs.RefusalText.{told_errors}

-- ## No request is refused with an empty list of errors

-- that it is
abbrev IsBlank : Outcome → Type 0
IsBlank x = x ≡ refused (spec.not_valid [])

valid-blank : (es : List RuleError) (x : Outcome) → IsBlank (if_valid es x) → IsBlank x
unfolding if_valid
valid-blank [] x is = is
valid-blank (e ∷ es) x is = cc

constant-blank : (n : Option Name) (x : Outcome) → IsBlank (if_constant n x) → IsBlank x
unfolding if_constant
constant-blank None x is = is
constant-blank (Some n) x is = cc

kind-blank : (s : Schema) (k : OperationType) (x : Outcome) → IsBlank (of_kind s k x) → IsBlank x
unfolding of_kind
kind-blank s query x is = is
kind-blank s mutation x is = go (is_some s.mutation) is
  where
    go : (b : Bool) → IsBlank (cond b x (refused spec.no_mutation_type)) → IsBlank x
    go true is = is
    go false is = cc
kind-blank s subscription x is = cc

runs-blank : (d : Document) (o : Operation) (v : Variables) → IsBlank (runs d o v) → ⊥
runs-blank d o v is = cc

choice-blank : (s : Schema) (given : Variables) (d : Document) (c : Choice) → IsBlank (of_choice s given d c) → ⊥
unfolding of_choice of_operation
choice-blank s given d (chosen o) is = runs-blank d o (coerced_variables (variables_of o) given)
    (kind-blank s o.kind _ (constant-blank (first_not_constant (variables_of o) given) _ (valid-blank (variable_errors s (variables_of o) given) _ is)))
choice-blank s given d many is = cc
choice-blank s given d unknown is = cc

document-blank : (s : Schema) (disabled : Bool) (n : Option Name) (given : Variables) (d : Option Document) →
    IsBlank (of_document s disabled n given d) → ⊥
unfolding of_document
document-blank s disabled n given None is = cc
document-blank s disabled n given (Some d) is = choice-blank s given d (choose d n) (valid-blank (rule_errors s disabled d) _ is)

never-blank : {C N : Type 0} (S : Service C N) (q : Request) → Becomes S q (refused (spec.not_valid [])) → ⊥
never-blank S q (d, reads, is) = document-blank S.schema S.introspection_disabled q.operation q.variables d is

-- ## Some error is told

-- where one is listed
told-nothing : (listed explanations : List lines.Refusal) → told_errors listed explanations ≡ [] → listed ≡ []
unfolding told_errors
told-nothing listed [] none = none
told-nothing listed (e ∷ es) none = cc

-- and one is listed, but where errors are wanting
untold : (e : RequestError) → refusals_of e ≡ [] → e ≡ not_valid []
untold (not_valid []) none = refl
untold (not_valid (x ∷ xs)) none = cc
untold (not_parsed x) none = cc
untold no_operation none = cc
untold multiple_operations none = cc
untold unknown_operation none = cc
untold is_subscription none = cc
untold not_subscription none = cc
untold no_mutation_type none = cc
untold (variable_not_constant n) none = cc
untold out_of_memory none = cc

pub some-told : {C N : Type 0} (S : Service C N) (q : Request) (c : C) (e : RequestError) (r : Refusal) (after : C) (explanations : List lines.Refusal) →
    refusal_of e ≡ Some r → IsFullOutcome S q c (refuses r) after → told_errors (refusals_of e) explanations ≢ []
some-told S q c e r after explanations is full none =
    let blank : e ≡ not_valid [] = untold e (told-nothing (refusals_of e) explanations none) in
    let same : Some (spec.not_valid []) ≡ Some r = subst (λ x. refusal_of x ≡ Some r) blank is in
    let refusal : r ≡ spec.not_valid [] = cc in
    never-blank S q (subst (λ x. Becomes S q (refused x)) refusal full.0.0.0)
