-- What a request is served where whoever asks is admitted first, or denied.
use Rattle.std.specs.Prelude.{◌≡◌, ◌⊎◌, Bool, List, [], ℕ, Option, Some, None, Result, Ok, Err, IsErr}
use Rattle.http.specs.declared.request.Request.{Request}
use Rattle.http_server.specs.declared.response.Response.{Response}
use Rattle.http_server.specs.Response.{IsResponse}
use Rattle.juniper_request.specs.Requests.{Asked, Body, single, batch, request_in, view_body}
use Rattle.juniper_http.specs.Denials.{Denies}
use Rattle.juniper_http.specs.Plans.{IsPlan}
use Rattle.juniper_http.specs.Responses.{Header}
use Rattle.juniper_http.specs.Served.{Follows, first_fields}
use Rattle.juniper_http.specs.declared.denial.Denial.{Denial}
use Rattle.juniper_http.specs.declared.endpoint.Reply.{Reply}
use Rattle.juniper_http.specs.declared.guarded.GuardedService.{GuardedService}
use Rattle.juniper_http.specs.declared.media.MediaType.{MediaType}
use Rattle.juniper_http.specs.declared.plan.Plan.{Plan}
use Rattle.juniper_http.specs.declared.plan.Plan.TheVariants.{Page, Methods, Refuse, Ask, Post}

-- The media type of what answers a plan that asks the endpoint something. The page, the methods and a refusal ask nothing.
abbrev pub asked_media : Plan → Option MediaType
asked_media Page = None
asked_media Methods = None
asked_media (Refuse why) = None
asked_media (Ask media parts may_write) = Some media
asked_media (Post media requests) = Some media

-- the body is one JSON, and it is no request
abbrev pub IsNoRequest : Body → Type 0
IsNoRequest (single d) = IsErr (request_in d)
IsNoRequest (batch ds) = ⊥

-- A plan for which memory may be refused with nothing put: any but one that puts a request.
abbrev pub MayPutNothing : Plan → Type 0
MayPutNothing Page = Unit {0}
MayPutNothing Methods = Unit {0}
MayPutNothing (Refuse why) = Unit {0}
MayPutNothing (Ask media parts may_write) = ⊥
MayPutNothing (Post media requests) = IsNoRequest (view_body requests)

module _ {S : Type 0} where
  -- What is done behind a verdict, from the state that it left. Who is admitted is answered as the plan says; where memory is refused for the answer to
  -- what is no request, it is a bare 500. Who is denied is told so, and nothing is put.
  abbrev pub FollowsVerdict : (S → Asked → Bool → Reply → S → Type 0) → ℕ → List Header → MediaType → Plan → Result (Unit {0}) Denial → S → Response → S
      → Type 0
  FollowsVerdict replies most before media p (Ok admitted) s r t = Follows replies most before p s r t ⊎ (MayPutNothing p × (t ≡ s) × IsResponse 500 [] [] r)
  FollowsVerdict replies most before media p (Err why) s r t = (t ≡ s) × Denies before media why r

  -- A plan that asks something, answered as this media type, is followed behind one verdict on the request; a plan that asks nothing behind none.
  abbrev pub FollowsGuarded : (S → Request (List ℕ) → Result (Unit {0}) Denial → S → Type 0) → (S → Asked → Bool → Reply → S → Type 0)
      → ℕ → List Header → Request (List ℕ) → Plan → Option MediaType → S → Response → S → Type 0
  FollowsGuarded admits replies most before request p None s r t = Follows replies most before p s r t
  FollowsGuarded admits replies most before request p (Some media) s r t =
      (verdict : Result (Unit {0}) Denial) × (next : S) × admits s request verdict next × FollowsVerdict replies most before media p verdict next r t

  -- A request is answered, behind these fields: by the plan for it, which is followed. Of the service nothing changes but the endpoint.
  abbrev pub ServesGuardedBehind : (S → Request (List ℕ) → Result (Unit {0}) Denial → S → Type 0) → (S → Asked → Bool → Reply → S → Type 0)
      → List Header → GuardedService S → Request (List ℕ) → Response → GuardedService S → Type 0
  ServesGuardedBehind admits replies before s request r t =
      (new : S) × (t ≡ record s { service = record s.service { endpoint = new } })
      × ((p : Plan) × IsPlan s.service.limits request p
      × FollowsGuarded admits replies s.service.limits.max_answer_len before request p (asked_media p) s.service.endpoint r new)

  abbrev pub ServesGuarded : (S → Request (List ℕ) → Result (Unit {0}) Denial → S → Type 0) → (S → Asked → Bool → Reply → S → Type 0)
      → GuardedService S → Request (List ℕ) → Response → GuardedService S → Type 0
  ServesGuarded admits replies s request r t = ServesGuardedBehind admits replies (first_fields s.service request) s request r t
