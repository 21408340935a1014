-- What a request is served.
use Rattle.std.specs.Prelude.{◌≡◌, ℕ, Bool, true, false, List, [], ◌∷◌, ◌++◌, codes, string_bytes, Result, Ok, Err}
use Rattle.std.specs.declared.alloc.Global.{Global}
use Rattle.http.specs.declared.request.Request.{Request}
use Rattle.http_server.specs.declared.response.Response.{Response}
use Rattle.juniper_request.specs.Requests.{Asked, Body, single, batch, request_in, view_body}
use Rattle.juniper_request.specs.declared.error.RequestError.{RequestError}
use Rattle.juniper_http.specs.Batches.{IsBatchReply}
use Rattle.juniper_http.specs.Origins.{origin_fields}
use Rattle.juniper_http.specs.Parts.{asked_by}
use Rattle.juniper_http.specs.Plans.{IsPlan}
use Rattle.juniper_http.specs.Responses.{Header, IsPage, IsRefusal, Says, TellsMethods}
use Rattle.juniper_http.specs.declared.endpoint.Reply.{Reply}
use Rattle.juniper_http.specs.declared.media.MediaType.{MediaType}
use Rattle.juniper_http.specs.declared.origins.AllowedOrigins.TheVariants.{Own}
use Rattle.juniper_http.specs.declared.plan.Limits.{Limits}
use Rattle.juniper_http.specs.declared.plan.Plan.{Plan}
use Rattle.juniper_http.specs.declared.plan.Plan.TheVariants.{Page, Methods, Refuse, Ask, Post}
use Rattle.juniper_http.specs.declared.refusal.Refusal.TheVariants.{NotARequest}
use Rattle.juniper_http.specs.declared.service.GraphQLService.{GraphQLService}

-- the field of a response that is the last of its connection
abbrev pub closing : Bool → List Header
closing true = (codes "connection", codes "close") ∷ []
closing false = []

module _ {S : Type 0} where
  -- a service as it is made
  abbrev pub service_over : Global → S → Limits → GraphQLService S
  service_over alloc endpoint limits = record { alloc = alloc; endpoint = endpoint; limits = limits; closes = false; origins = Own }

  -- the fields of an answer that stand before those of its plan
  abbrev pub first_fields : GraphQLService S → Request (List ℕ) → List Header
  first_fields s request = closing s.closes ++ origin_fields s.origins request

  -- one request, which may write, is put between the two states, and the response says the reply
  abbrev pub Puts : (S → Asked → Bool → Reply → S → Type 0) → List Header → MediaType → Asked → Bool → S → Response → S → Type 0
  Puts replies before media asked may_write s r t =
      (reply : Reply) × replies s asked may_write reply t × Says before media reply.outcome (string_bytes reply.line) r

  -- the request that JSON is, which may write, is put; or it is none, and the response says why
  abbrev pub PutsOne : (S → Asked → Bool → Reply → S → Type 0) → List Header → MediaType → Result Asked RequestError → S → Response → S → Type 0
  PutsOne replies before media (Ok asked) s r t = Puts replies before media asked true s r t
  PutsOne replies before media (Err e) s r t = (t ≡ s) × IsRefusal before (NotARequest e) r

  -- the requests of a POST are put, several while their replies have at most so many bytes
  abbrev pub PutsBody : (S → Asked → Bool → Reply → S → Type 0) → ℕ → List Header → MediaType → Body → S → Response → S → Type 0
  PutsBody replies most before media (single d) s r t = PutsOne replies before media (request_in d) s r t
  PutsBody replies most before media (batch ds) s r t =
      (reply : Reply) × IsBatchReply replies most ds s reply t × Says before media reply.outcome (string_bytes reply.line) r

  -- what is done for a plan, between two states of the endpoint
  abbrev pub Follows : (S → Asked → Bool → Reply → S → Type 0) → ℕ → List Header → Plan → S → Response → S → Type 0
  Follows replies most before Page s r t = (t ≡ s) × IsPage before r
  Follows replies most before Methods s r t = (t ≡ s) × TellsMethods before r
  Follows replies most before (Refuse why) s r t = (t ≡ s) × IsRefusal before why r
  Follows replies most before (Ask media parts may_write) s r t = Puts replies before media (asked_by parts) may_write s r t
  Follows replies most before (Post media requests) s r t = PutsBody replies most before media (view_body requests) s r t

  -- A request is answered, behind these fields: by the plan for it, which is followed. Of the service nothing changes but the endpoint.
  abbrev pub ServesBehind : (S → Asked → Bool → Reply → S → Type 0) → List Header → GraphQLService S → Request (List ℕ) → Response → GraphQLService S
      → Type 0
  ServesBehind replies before s request r t =
      (new : S) × (t ≡ record s { endpoint = new })
      × ((p : Plan) × IsPlan s.limits request p × Follows replies s.limits.max_answer_len before p s.endpoint r new)

  abbrev pub Serves : (S → Asked → Bool → Reply → S → Type 0) → GraphQLService S → Request (List ℕ) → Response → GraphQLService S → Type 0
  Serves replies s request r t = ServesBehind replies (first_fields s request) s request r t
