-- The steps that decide what becomes of a request.
use Rattle.std.proofs.Common.{◌≡◌, Some, None, refl, ◌∙◌, inl, inr}
use Rattle.graphql_spec.specs.Documents.{Document, Operation}
use Rattle.graphql_spec.specs.Requests.{choose, chosen, if_constant, if_valid, of_operation, of_choice, of_document}
use Rattle.graphql_spec.specs.Outcomes.{Request, Service, refuses, responds, out_of_memory, KnownOutcome, IsReadAsValid, StepsDecide}

module _ {C N : Type 0} (S : Service C N) where
  pub known-outcome : KnownOutcome S
  known-outcome tell q x b c (refuses r) after i = ((b.0, b.1, b.2 ∙ i.0), i.1)
  known-outcome tell q x b c (responds v es) after i = (i.0, i.1, i.2, (b.0, b.1, b.2 ∙ i.3), i.4)
  known-outcome tell q x b c out_of_memory after (inl e) = inl e
  known-outcome tell q x b c out_of_memory after (inr i) = inr (i.0, i.1, i.2, (b.0, b.1, b.2 ∙ i.3), i.4, i.5)

  valid-on : (q : Request) (d : Document) → IsReadAsValid S q d → of_document S.schema S.introspection_disabled q.operation q.variables (Some d)
      ≡ of_choice S.schema q.variables d (choose d q.operation)
  unfolding of_document if_valid
  valid-on q d v = rw (v.1) refl

  chosen-on : (q : Request) (d : Document) (o : Operation) → IsReadAsValid S q d → choose d q.operation ≡ chosen o →
      of_document S.schema S.introspection_disabled q.operation q.variables (Some d) ≡ of_operation S.schema q.variables d o
  unfolding of_choice
  chosen-on q d o v e = valid-on q d v ∙ rw e refl

  pub steps-decide : StepsDecide S
  unfolding of_document if_valid of_choice of_operation if_constant
  steps-decide = record {
    unread = λ q r. (None, r, refl);
    invalid = λ q d r e es m. (Some d, r, rw m refl);
    unchosen = λ q d v. (λ m. (Some d, v.0, valid-on q d v ∙ rw m refl), λ m. (Some d, v.0, valid-on q d v ∙ rw m refl));
    unfitting = λ q d o v m e es n. (Some d, v.0, chosen-on q d o v m ∙ rw n refl);
    inconstant = λ q d o v m n x p. (Some d, v.0, chosen-on q d o v m ∙ rw (n, p) refl);
    kind = λ q d o v m n p. (Some d, v.0, chosen-on q d o v m ∙ rw (n, p) refl);
  }
