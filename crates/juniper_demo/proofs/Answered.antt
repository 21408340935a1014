-- What is answered to the request, by whatever serves it: one data and one list of errors, or want of memory (6.1).
use Rattle.std.specs.Prelude.{◌≡◌, false, codes, List, [], ◌∷◌, Option, None, Some}
use Rattle.std.proofs.Common.{refl, sym, ap, ◌∙◌, inl, inr, subst}
use Rattle.graphql_spec.specs.Shown.{Name, text}
use Rattle.graphql_spec.specs.Inputs.{Variables}
use Rattle.graphql_spec.specs.Constants.{Members, no_members}
use Rattle.graphql_spec.specs.Documents.{operations, variables_of, query, mutation}
use Rattle.graphql_spec.specs.Schema.{Entry}
use Rattle.graphql_spec.specs.Values.{Value}
use Rattle.graphql_spec.specs.Resolvers.{Reply, leaf, answered, failed}
use Rattle.graphql_spec.specs.Errors.{Place, Listed}
use Rattle.graphql_spec.specs.Laws.{In, Pair, pairs, pair_at}
use Rattle.graphql_spec.specs.Walk.{IsAnswer, told}
use Rattle.graphql_spec.specs.Requests.{Refusal, Outcome, refused, runs, choose, choose_only, variable_errors, first_not_constant, coerced_variables, of_kind}
use Rattle.graphql_spec.specs.Requests.{if_constant, if_valid, of_operation, of_choice, of_document, selected}
use Rattle.graphql_spec.specs.Outcomes.{Service, Steps, responds, refuses, out_of_memory, Becomes, IsExecuted}
use Rattle.graphql_spec.specs.ExactAnswers.{whole, PathsDiffer, IsExactOutcome}
use Rattle.graphql_spec.specs.Introspection.{RootedNode, rooted_service}
use Rattle.graphql_spec.proofs.Demo.{at}
use Rattle.juniper_demo.proofs.Executed.{is_selected, is_data, are_failures, the_data, the_error, the_place, the_failure}
use Rattle.juniper_demo.proofs.Declared.{Declares, queried}
use Rattle.juniper_demo.proofs.Request.{the_document, the_operation, the_text_spells}
use Rattle.juniper_demo.proofs.Valid.{is_valid}
use Rattle.juniper_demo.specs.DemoLine.{asking}

-- ## The error

abbrev pub the_listed : Listed
the_listed = record { path = the_place; start = at 36; error = the_error }

-- what belongs to the failure is the error
belongs_is : (x : Listed) → (q : Pair) × In q (pairs (the_failure ∷ [])) × (told whole q ≡ x) → x ≡ the_listed
unfolding pairs pair_at told
belongs_is x b = elim b.1 [ inl e ↦ sym b.2 ∙ ap (told whole) e | inr j ↦ absurd j ]

only_error : (data_is value : Value) (stands : List Place) (es : List Listed) → IsAnswer whole data_is (the_failure ∷ []) stands value es →
    PathsDiffer es → es ≡ the_listed ∷ []
unfolding pairs pair_at
only_error v w stands [] a apart = let none = a.none.0 refl in cc
only_error v w stands (x ∷ []) a apart = ap (λ y. y ∷ []) (belongs_is x (a.belongs x (inl refl)))
only_error v w stands (x ∷ (y ∷ rest)) a apart =
    absurd (apart.0 y (inl refl) (ap (λ z. z.path) (belongs_is x (a.belongs x (inl refl)) ∙ sym (belongs_is y (a.belongs y (inr (inl refl)))))))

-- ## What becomes of the request

module _ (es : List Entry) (m : Option Name) (known : Declares (queried es m)) (vars : Variables) where
  abbrev the_outcome : Outcome
  the_outcome = runs the_document the_operation (coerced_variables (variables_of the_operation) vars)

  it_runs : of_document (queried es m) false None vars (Some the_document) ≡ the_outcome
  unfolding of_document if_valid of_choice choose choose_only operations of_operation variable_errors first_not_constant if_constant of_kind variables_of
  it_runs = rw (is_valid es m known) refl

  module _ {C N : Type 0} (concrete : C → N → Name) (answer : C → N → Name → Members → Reply N) (top : N) (steps : Option (Steps C N)) (c : C)
      (ids : answer c top (codes "id") no_members ≡ answered (leaf (text (codes "q1"))))
      (fails : answer c top (codes "fail") no_members ≡ failed the_error) where
    abbrev S : Service C (RootedNode N)
    S = rooted_service (record {
      schema = queried es m;
      introspection_disabled = false;
      concrete = concrete;
      answer = answer;
      root = top;
      mutation = steps;
    })

    becomes : (x : Outcome) → Becomes S (asking vars) x → the_outcome ≡ x
    unfolding rooted_service
    becomes x (None, reads, is) = absurd (reads the_document the_text_spells)
    becomes x (Some d, reads, is) =
        sym it_runs ∙ subst (λ k. of_document (queried es m) false None vars (Some k) ≡ x) (sym (reads.1 the_document the_text_spells)) is

    -- what is answered by an operation that runs
    abbrev Executes : Value → List Listed → C → Outcome → Type 0
    Executes v ls after (refused r) = ⊥
    Executes v ls after (runs d o given) = IsExecuted S whole o.kind given (selected d o given) c v ls after

    executes : (v : Value) (ls : List Listed) (after : C) → Executes v ls after the_outcome → PathsDiffer ls →
        (v ≡ the_data) × (ls ≡ the_listed ∷ []) × (after ≡ c)
    unfolding rooted_service
    executes v ls after a apart =
        let given : Variables = coerced_variables (variables_of the_operation) vars in
        let told = rw (
          is_selected given,
          is_data es m known given top (concrete c) (answer c) ids fails,
          are_failures es m known given top (concrete c) (answer c)
              ids fails,
        ) at a.0 in
        (told.is_data, only_error the_data v _ ls told apart, a.1)

    pub answers : (v : Value) (ls : List Listed) (after : C) → IsExactOutcome S (asking vars) c (responds v ls) after →
        (v ≡ the_data) × (ls ≡ the_listed ∷ []) × (after ≡ c)
    answers v ls after ((d, o, given, becomes_is, a), apart) =
        executes v ls after (subst (Executes v ls after) (sym (becomes (runs d o given) becomes_is)) a) apart

    -- whether it is a refusal
    abbrev IsRefused : Outcome → Type 0
    IsRefused (refused r) = Unit {0}
    IsRefused (runs d o given) = ⊥

    pub never_refused : (r : Refusal) (after : C) → IsExactOutcome S (asking vars) c (refuses r) after → ⊥
    never_refused r after ((becomes_is, same), once) = subst IsRefused (sym (becomes (refused r) becomes_is)) tt

    -- whether it is a mutation
    abbrev Mutates : Outcome → Type 0
    Mutates (refused r) = ⊥
    Mutates (runs d o given) = o.kind ≡ mutation

    pub memory_leaves : (after : C) → IsExactOutcome S (asking vars) c out_of_memory after → after ≡ c
    memory_leaves after (inl same, once) = same
    memory_leaves after (inr (d, o, given, becomes_is, kind, rest), once) =
        let wrong : query ≡ mutation = subst Mutates (sym (becomes (runs d o given) becomes_is)) kind in cc
