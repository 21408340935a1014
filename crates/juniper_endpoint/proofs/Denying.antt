-- A request that is denied leaves what a denial leaves.
use Rattle.std.proofs.Common.{◌≡◌, ℕ, Bool, List, Result, Ok, Err, OnErr, IsErr, ap, ◌∙◌}
use Rattle.http.specs.declared.request.Request.{Request}
use Rattle.http_server.specs.declared.response.Response.{Response}
use Rattle.juniper_http.specs.Guards.{FollowsGuarded, FollowsVerdict, ServesGuarded, asked_media}
use Rattle.juniper_http.specs.Responses.{Header}
use Rattle.juniper_http.specs.Served.{first_fields}
use Rattle.juniper_http.specs.declared.denial.Denial.{Denial}
use Rattle.juniper_http.specs.declared.endpoint.Reply.{Reply}
use Rattle.juniper_http.specs.declared.guarded.GuardedService.{GuardedService}
use Rattle.juniper_http.specs.declared.media.MediaType.{MediaType}
use Rattle.juniper_http.specs.declared.plan.Plan.{Plan}
use Rattle.juniper_http.specs.declared.plan.Plan.TheVariants.{Page, Methods, Refuse, Ask, Post}
use Rattle.juniper_request.specs.Requests.{Asked}

-- each denial leaves what is kept of a state, and each verdict on the request is one
module _ {S K : Type 0} (admits : S → Request (List ℕ) → Result (Unit {0}) Denial → S → Type 0) (replies : S → Asked → Bool → Reply → S → Type 0)
    (kept : S → K) (request : Request (List ℕ)) (s : S)
    (denied : (verdict : Result (Unit {0}) Denial) (next : S) → admits s request verdict next → IsErr verdict)
    (leaves : (verdict : Result (Unit {0}) Denial) (next : S) → admits s request verdict next → OnErr verdict (kept next ≡ kept s)) where
  verdict-leaves : (most : ℕ) (before : List Header) (media : MediaType) (p : Plan) (verdict : Result (Unit {0}) Denial) (next : S) (r : Response) (t : S) →
      admits s request verdict next → FollowsVerdict replies most before media p verdict next r t → kept t ≡ kept s
  verdict-leaves most before media p (Ok admitted) next r t a f = absurd (cc (denied (Ok admitted) next a))
  verdict-leaves most before media p (Err why) next r t a (same, told) = ap kept same ∙ leaves (Err why) next a

  follows-leave : (most : ℕ) (before : List Header) (p : Plan) (r : Response) (t : S) →
      FollowsGuarded admits replies most before request p (asked_media p) s r t → kept t ≡ kept s
  follows-leave most before Page r t (same, page) = ap kept same
  follows-leave most before Methods r t (same, told) = ap kept same
  follows-leave most before (Refuse why) r t (same, told) = ap kept same
  follows-leave most before (Ask media parts may_write) r t (verdict, next, a, f) =
      verdict-leaves most before media (Ask media parts may_write) verdict next r t a f
  follows-leave most before (Post media requests) r t (verdict, next, a, f) = verdict-leaves most before media (Post media requests) verdict next r t a f

pub service-leaves : {S K : Type 0} (s t : GuardedService S) (admits : S → Request (List ℕ) → Result (Unit {0}) Denial → S → Type 0)
    (replies : S → Asked → Bool → Reply → S → Type 0) (kept : S → K) (request : Request (List ℕ)) (r : Response) → ServesGuarded admits replies s request r t →
    ((verdict : Result (Unit {0}) Denial) (next : S) → admits s.service.endpoint request verdict next → IsErr verdict) →
    ((verdict : Result (Unit {0}) Denial) (next : S) → admits s.service.endpoint request verdict next → OnErr verdict (kept next ≡ kept s.service.endpoint)) →
    kept t.service.endpoint ≡ kept s.service.endpoint
service-leaves s t admits replies kept request r (new, is, (p, plan, follows)) denied leaves =
    ap (λ x. kept x.service.endpoint) is
    ∙ follows-leave admits replies kept request s.service.endpoint denied leaves _ (first_fields s.service request) p r new follows
