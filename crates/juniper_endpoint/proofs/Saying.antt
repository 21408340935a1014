-- What is said of a line, over plain variables.
use Rattle.std.proofs.Common.{◌≡◌, ℕ, Bool, true, List, Result, Ok, Err, IfOk, String, Global, string_bytes, refl, sym, subst, inr}
use Rattle.std.specs.declared.alloc.AllocError.{AllocError}
use Rattle.juniper_http.specs.Batches.{PutsAsked}
use Rattle.juniper_http.specs.Outcomes.{reply_text}
use Rattle.juniper_http.specs.declared.endpoint.Reply.{Reply}
use Rattle.juniper_request.specs.Requests.{Asked}
use Rattle.juniper_request.specs.declared.error.RequestError.{RequestError}
use Rattle.juniper_endpoint.specs.RequestLines.{Says}

module _ {S : Type 0} where
  -- what is done is said, or memory is refused for the telling
  pub said : (P : S → List ℕ → S → Type 0) (s t : S) (r : Result (String Global) AllocError) (text : List ℕ) → P s text t →
      IfOk r (λ made. string_bytes made ≡ text) → Says P s r t
  said P s t (Ok made) text p is = subst (λ x. P s x t) (sym is) p
  said P s t (Err e) text p is = inr (text, p)

  -- a request that is put
  pub puts : (replies : S → Asked → Bool → Reply → S → Type 0) (d : Result Asked RequestError) (a : Asked) (s t : S) (reply : Reply) → Ok a ≡ d →
      replies s a true reply t → PutsAsked replies d s (reply_text reply.outcome (string_bytes reply.line)) t
  puts replies d a s t reply is r = subst (λ x. PutsAsked replies x s (reply_text reply.outcome (string_bytes reply.line)) t) is (reply, r, refl)
