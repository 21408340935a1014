-- A request that may not write leaves the context as it was.
use Rattle.std.proofs.Common.{◌≡◌, ◌≢◌, ℕ, Bool, false, List, Option, codes, refl, ap, subst, ◌∙◌, inl, inr}
use Rattle.std.proofs.lemmas.Bool.{cases_Bool}
use Rattle.graphql_spec.specs.Documents.{Document, Operation, query, mutation, subscription}
use Rattle.graphql_spec.specs.Errors.{Listed}
use Rattle.graphql_spec.specs.ExactAnswers.{whole}
use Rattle.graphql_spec.specs.Inputs.{Variables}
use Rattle.graphql_spec.specs.Outcomes.{Service, Response, refuses, responds, out_of_memory, Becomes, IsExecuted, IsOutcome}
use Rattle.graphql_spec.specs.Requests.{choose, chosen, runs, selected}
use Rattle.graphql_spec.specs.Shown.{Text}
use Rattle.graphql_spec.specs.Values.{Value}
use Rattle.juniper.specs.declared.prepared.Bounds.{Bounds}
use Rattle.http.specs.Request.{head_of}
use Rattle.http.specs.declared.request.Request.{Request as HttpRequest}
use Rattle.http_server.specs.declared.response.Response.{Response as HttpResponse}
use Rattle.juniper_http.specs.Parts.{asked_by}
use Rattle.juniper_http.specs.Plans.{IsPlanFor}
use Rattle.juniper_http.specs.Responses.{Header}
use Rattle.juniper_http.specs.Served.{Follows, Serves, first_fields}
use Rattle.juniper_http.specs.declared.endpoint.Reply.{Reply}
use Rattle.juniper_http.specs.declared.plan.Plan.{Plan}
use Rattle.juniper_http.specs.declared.plan.Plan.TheVariants.{Page, Methods, Refuse, Ask, Post}
use Rattle.juniper_http.specs.declared.service.GraphQLService.{GraphQLService}
use Rattle.juniper_http.specs.declared.outcome.Outcome.{Outcome}
use Rattle.juniper_http.specs.declared.outcome.Outcome.TheVariants.{Executed, Refused, Writes, OutOfMemory}
use Rattle.juniper_request.specs.Requests.{Asked}
use Rattle.juniper_endpoint.proofs.Chosen.{chosen-of}
use Rattle.juniper_endpoint.specs.Replied.{MayRun, Replies, request_asked}

module _ {C N : Type 0} (S : Service C N) (b : Bounds) (a : Asked) (most : ℕ) (c : C) where
  -- what runs is no mutation
  no-mutation : MayRun S b a false → (e : Document) (o : Operation) (v : Variables) → Becomes S (request_asked a) (runs e o v) → o.kind ≢ mutation
  no-mutation (d, taken, free) e o v becomes =
      let x = chosen-of e o v S (request_asked a) becomes in
      let same : e ≡ d = taken.0.0.1.1 e x.0.0 in
      (free o (subst (λ z. choose z a.operation_name ≡ chosen o) same x.1)).0 refl

  query-leaves : (o : Operation) (v : Variables) (e : Document) (value : Value) (es : List Listed) (after : C) → o.kind ≢ mutation →
      IsExecuted S whole o.kind v (selected e o v) c value es after → after ≡ c
  query-leaves o v e value es after other i = go o.kind other i
    where
      go : (k : _) → k ≢ mutation → IsExecuted S whole k v (selected e o v) c value es after → after ≡ c
      go query other i = i.1
      go mutation other i = absurd (other refl)
      go subscription other i = absurd i

  outcome-leaves : MayRun S b a false → (r : Response) (after : C) → IsOutcome S whole (request_asked a) c r after → after ≡ c
  outcome-leaves may (refuses r) after i = i.1
  outcome-leaves may (responds value es) after (e, o, v, becomes, i) = query-leaves o v e value es after (no-mutation may e o v becomes) i
  outcome-leaves may out_of_memory after (inl same) = same
  outcome-leaves may out_of_memory after (inr (e, o, v, becomes, kind, left)) = absurd (no-mutation may e o v becomes kind)

  pub reads-leave : (fields : Option ℕ) (outcome : Outcome) (line : Text) (after : C) → Replies S b a most false c fields outcome line after → after ≡ c
  reads-leave fields Executed line after (may, (value, es, full, is, few)) = outcome-leaves may (responds value es) after full.0.0
  reads-leave fields Refused line after (inl (bounded, (e, r, is, full, told))) = full.0.0.1
  reads-leave fields Refused line after (inr (inl (same, why))) = same
  reads-leave fields Refused line after (inr (inr (may, only, full, is))) = outcome-leaves may out_of_memory after full.0.0
  reads-leave fields Writes line after (same, reads, is, told) = same
  reads-leave fields OutOfMemory line after (inl same) = same
  reads-leave fields OutOfMemory line after (inr (may, (r, full))) = outcome-leaves may r after full.0.0

-- ## Services

module _ {S : Type 0} (replies : S → Asked → Bool → Reply → S → Type 0)
    (leaves : (s : S) (a : Asked) (reply : Reply) (t : S) → replies s a false reply t → t ≡ s) where
  follows-leave : (most : ℕ) (before : List Header) (method body : List ℕ) (p : Plan) (s : S) (r : HttpResponse) (t : S) → method ≢ codes "POST" →
      IsPlanFor method body p → Follows replies most before p s r t → t ≡ s
  follows-leave most before method body Page s r t other is (same, page) = same
  follows-leave most before method body Methods s r t other is (same, told) = same
  follows-leave most before method body (Refuse why) s r t other is (same, told) = same
  follows-leave most before method body (Ask media parts may_write) s r t other is (reply, replied, says) = elim (cases_Bool may_write) [
    | inl w ↦ absurd (other (is w))
    | inr w ↦ leaves s (asked_by parts) reply t (subst (λ x. replies s (asked_by parts) x reply t) w replied)
  ]
  follows-leave most before method body (Post media requests) s r t other (posts, read) f = absurd (other posts)

  pub service-leaves : (s : GraphQLService S) (request : HttpRequest (List ℕ)) (r : HttpResponse) (t : GraphQLService S) →
      (head_of request).method ≢ codes "POST" → Serves replies s request r t → t ≡ s
  service-leaves s request r t other (new, is, (p, plan, follows)) =
      is ∙ ap (λ e. record s { endpoint = e }) (follows-leave s.limits.max_answer_len (first_fields s request) _ _ p s.endpoint r new other plan.0 follows)
