-- What may be planned for a request.
use Rattle.std.specs.Prelude.{◌≡◌, ℕ, ◌==◌, nat_le, nat_lt, if◌then◌else◌, List, length, Bool, true, false, is_some, Option, Some, None}
use Rattle.std.specs.Prelude.{Result, Ok, Err, codes, IsTrue, IsUtf8}
use Rattle.http.specs.declared.request.Request.{Request}
use Rattle.http.specs.Request.{head_of, body_of}
use Rattle.http_header.specs.HeaderMap.{get_all}
use Rattle.http_uri.specs.Uri.{uri_path, uri_query}
use Rattle.serde_json.specs.Data.{Data}
use Rattle.serde_json.specs.Read.{read}
use Rattle.juniper_request.specs.Requests.{Asked, Body, IsRead, single, batch, body_in, view_body}
use Rattle.juniper_request.specs.declared.error.NotJson.{NotJson as Fault}
use Rattle.juniper_request.specs.declared.error.RequestError.TheVariants.{Query}
use Rattle.juniper_request.specs.declared.read.GraphQLBatchRequest.{GraphQLBatchRequest}
use Rattle.juniper_http.specs.Accept.{Ranged, choice, prefers_page, ranges_of}
use Rattle.juniper_http.specs.ContentTypes.{IsBodyType}
use Rattle.juniper_http.specs.Decisions.{is_known, step_of, verb_of}
use Rattle.juniper_http.specs.Parameters.{given_in, IsAskedBy}
use Rattle.juniper_http.specs.Parts.{asked_by, asked_of}
use Rattle.juniper_http.specs.declared.decision.Facts.{Facts}
use Rattle.juniper_http.specs.declared.decision.Step.{Step}
use Rattle.juniper_http.specs.declared.decision.Step.TheVariants as step
use Rattle.juniper_http.specs.declared.decision.Step.TheVariants.{ShowPage, TellMethods, ReadQuery, ReadJson, ReadDocument}
use Rattle.juniper_http.specs.declared.media.MediaType.{MediaType}
use Rattle.juniper_http.specs.declared.plan.Limits.{Limits}
use Rattle.juniper_http.specs.declared.plan.Plan.{Plan}
use Rattle.juniper_http.specs.declared.plan.Plan.TheVariants.{Page, Methods, Refuse, Ask, Post}
use Rattle.juniper_http.specs.declared.refusal.Refusal.{Refusal}
use Rattle.juniper_http.specs.declared.refusal.Refusal.TheVariants.{EmptyBatch, LongBatch, MediaType as OtherType, NotARequest, NotJson}

-- What may be planned for a request of this method and this body: only a POST may write, and its JSON is that of the body.
abbrev pub IsPlanFor : List ℕ → List ℕ → Plan → Type 0
IsPlanFor method body Page = Unit {0}
IsPlanFor method body Methods = Unit {0}
IsPlanFor method body (Refuse why) = Unit {0}
IsPlanFor method body (Ask media given may_write) = IsTrue may_write → method ≡ codes "POST"
IsPlanFor method body (Post media requests) = (method ≡ codes "POST") × ((d : Data) × (read body ≡ Some d) × (view_body requests ≡ body_in d))

-- how many requests a batch has
abbrev pub batch_len : Body → Option ℕ
batch_len (single d) = None
batch_len (batch ds) = Some (length ds)

-- a batch of this length is put, unless there is no request in it or there are too many
abbrev pub body_plan : Limits → MediaType → GraphQLBatchRequest → Option ℕ → Plan
body_plan limits media requests None = Post media requests
body_plan limits media requests (Some n) =
    if n == 0 then Refuse EmptyBatch else (if nat_lt limits.max_batch_len n then Refuse LongBatch else Post media requests)

-- what is planned for these requests
abbrev pub IsBodyPlan : Limits → MediaType → GraphQLBatchRequest → Plan → Type 0
IsBodyPlan limits media requests p = p ≡ body_plan limits media requests (batch_len (view_body requests))

-- the plan puts this request as this media type, and it may write or not
abbrev pub Asks : MediaType → Asked → Bool → Plan → Type 0
Asks media asked writes Page = ⊥
Asks media asked writes Methods = ⊥
Asks media asked writes (Refuse why) = ⊥
Asks media asked writes (Ask m parts may_write) = (m ≡ media) × (asked_by parts ≡ asked) × (may_write ≡ writes)
Asks media asked writes (Post m requests) = ⊥

-- the plan for what parameters ask, which may not write
abbrev pub IsAskedPlan : MediaType → Result Asked Refusal → Plan → Type 0
IsAskedPlan media (Ok asked) p = Asks media asked false p
IsAskedPlan media (Err why) p = p ≡ Refuse why

-- what is planned for a GET with this query
abbrev pub IsQueryPlan : MediaType → Option (List ℕ) → Plan → Type 0
IsQueryPlan media None p = p ≡ Refuse (NotARequest Query)
IsQueryPlan media (Some query) p = (asked : Result Asked Refusal) × IsAskedBy (given_in query) asked × IsAskedPlan media asked p

-- what is planned for a body of JSON
abbrev pub IsReadPlan : Limits → MediaType → Result GraphQLBatchRequest Fault → Plan → Type 0
IsReadPlan limits media (Ok requests) p = IsBodyPlan limits media requests p
IsReadPlan limits media (Err fault) p = p ≡ Refuse (NotJson fault)

abbrev pub IsJsonPlan : Limits → MediaType → List ℕ → Plan → Type 0
IsJsonPlan limits media body p = (read : Result GraphQLBatchRequest Fault) × IsRead body read × IsReadPlan limits media read p

-- what is planned for a body that is the text of a document
abbrev pub IsDocumentPlan : MediaType → List ℕ → Plan → Type 0
IsDocumentPlan media body p = (IsUtf8 body → Asks media (asked_of body) true p) × (¬ (IsUtf8 body) → p ≡ Refuse OtherType)

-- the ranges that a request takes
abbrev pub taken_by : Request (List ℕ) → List Ranged
taken_by r = ranges_of (get_all (head_of r).headers (codes "accept"))

-- What is known of a request's head. An `Accept` with no range in it is as if it were missing.
pub record AreFacts (limits : Limits) (r : Request (List ℕ)) (f : Facts) : Type 0 where
  pub verb : f.verb ≡ verb_of (head_of r).method
  pub path : f.is_known_path ≡ is_known f.verb (uri_path (head_of r).uri)
  pub query : f.has_query ≡ is_some (uri_query (head_of r).uri)
  pub accept : f.has_accept ≡ nat_lt 0 (length (taken_by r))
  pub media : f.media ≡ choice (taken_by r)
  pub page : f.wants_page ≡ prefers_page (taken_by r)
  pub body : IsBodyType (get_all (head_of r).headers (codes "content-encoding")) (get_all (head_of r).headers (codes "content-type")) f.body
  pub fits : f.fits ≡ nat_le (length (body_of r)) limits.max_body_len

-- what is planned for what is to be done
abbrev pub IsStepPlan : Limits → Request (List ℕ) → Step → Plan → Type 0
IsStepPlan limits r ShowPage p = p ≡ Page
IsStepPlan limits r TellMethods p = p ≡ Methods
IsStepPlan limits r (step.Refuse why) p = p ≡ Refuse why
IsStepPlan limits r (ReadQuery media) p = IsQueryPlan media (uri_query (head_of r).uri) p
IsStepPlan limits r (ReadJson media) p = IsJsonPlan limits media (body_of r) p
IsStepPlan limits r (ReadDocument media) p = IsDocumentPlan media (body_of r) p

-- the plan for a request, by what is known of its head
abbrev pub IsPlan : Limits → Request (List ℕ) → Plan → Type 0
IsPlan limits request p =
    IsPlanFor (head_of request).method (body_of request) p
    × ((f : Facts) × AreFacts limits request f × IsStepPlan limits request (step_of f) p)
