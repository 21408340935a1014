-- What runs was chosen (GetOperation, 6.1).
use Rattle.std.proofs.Common.{◌≡◌, Bool, List, [], ◌∷◌, Option, Some, None, subst, ap, inl, inr}
use Rattle.std.proofs.lemmas.Bool.{cases_Bool}
use Rattle.std.specs.Option.{is_some}
use Rattle.graphql_spec.specs.Documents.{Document, Operation, OperationType, query, mutation, subscription, variables_of}
use Rattle.graphql_spec.specs.Inputs.{Variables}
use Rattle.graphql_spec.specs.Outcomes.{Request, Service, Reads, Becomes}
use Rattle.graphql_spec.specs.Requests.{Choice, chosen, many, unknown, choose, Outcome, refused, runs, of_kind, if_constant, if_valid, of_operation, of_choice}
use Rattle.graphql_spec.specs.Requests.{of_document, coerced_variables, variable_errors, first_not_constant}
use Rattle.graphql_spec.specs.Rules.{RuleError, rule_errors}
use Rattle.graphql_spec.specs.Schema.{Schema}
use Rattle.graphql_spec.specs.Shown.{Name}

module _ (e : Document) (o : Operation) (v : Variables) where
  valid-of : (es : List RuleError) (x : Outcome) → if_valid es x ≡ runs e o v → x ≡ runs e o v
  unfolding if_valid
  valid-of [] x q = q
  valid-of (z ∷ es) x q = cc

  constant-of : (n : Option Name) (x : Outcome) → if_constant n x ≡ runs e o v → x ≡ runs e o v
  unfolding if_constant
  constant-of None x q = q
  constant-of (Some n) x q = cc

  kind-of : (s : Schema) (k : OperationType) (x : Outcome) → of_kind s k x ≡ runs e o v → x ≡ runs e o v
  unfolding of_kind
  kind-of s query x q = q
  kind-of s mutation x q = elim (cases_Bool (is_some s.mutation)) [ inl t ↦ (rw t at q) | inr t ↦ absurd (lost (rw t at q)) ]
    where
      lost : {r : _} → refused r ≡ runs e o v → ⊥
      lost w = cc
  kind-of s subscription x q = cc

  same-of : (d : Document) (p : Operation) (w : Variables) → runs d p w ≡ runs e o v → (d ≡ e) × (p ≡ o)
  same-of d p w q = (cc, cc)

  operation-of : (s : Schema) (given : Variables) (d : Document) (p : Operation) → of_operation s given d p ≡ runs e o v → (d ≡ e) × (p ≡ o)
  unfolding of_operation
  operation-of s given d p q = same-of d p (coerced_variables (variables_of p) given)
      (kind-of s p.kind _ (constant-of (first_not_constant (variables_of p) given) _ (valid-of (variable_errors s (variables_of p) given) _ q)))

  choice-of : (s : Schema) (given : Variables) (d : Document) (c : Choice) → of_choice s given d c ≡ runs e o v → (d ≡ e) × (c ≡ chosen o)
  unfolding of_choice
  choice-of s given d (chosen p) q = let a = operation-of s given d p q in (a.0, ap chosen a.1)
  choice-of s given d many q = cc
  choice-of s given d unknown q = cc

  document-of : (s : Schema) (disabled : Bool) (n : Option Name) (given : Variables) (d : Option Document) → of_document s disabled n given d ≡ runs e o v →
      (d ≡ Some e) × (choose e n ≡ chosen o)
  unfolding of_document
  document-of s disabled n given None q = cc
  document-of s disabled n given (Some d) q =
      let a = choice-of s given d (choose d n) (valid-of (rule_errors s disabled d) _ q) in
      (ap Some a.0, subst (λ z. choose z n ≡ chosen o) a.0 a.1)

  -- the document is what the text is read as, and the name chooses the operation
  pub chosen-of : {C N : Type 0} (S : Service C N) (q : Request) → Becomes S q (runs e o v) → Reads q.text (Some e) × (choose e q.operation ≡ chosen o)
  chosen-of S q (d, reads, is) =
      let a = document-of S.schema S.introspection_disabled q.operation q.variables d is in
      (subst (Reads q.text) a.0 reads, a.1)
