-- A connection that begins with nothing: what was added to its history is all of it.
use Rattle.std.proofs.Common.{◌≡◌, ℕ, List, ◌++◌, Option, sym, ap, subst, ◌∙◌}
use Rattle.std.specs.Io.KnownBytes.{Appends, Consumes}
use Rattle.http.specs.declared.request.Request.{Request}
use Rattle.http_server.specs.declared.response.Response.{Response}
use Rattle.http_server.specs.declared.state.Config.{Config}
use Rattle.http_server.specs.Exchange.{Calls, Chain}
use Rattle.http_server.specs.History.{History, IsServed, new_history}
use Rattle.juniper_http.specs.Connections.{Conversation}

pub from_the_start : {S : Type 0} (answers : S → Request (List ℕ) → Response → S → Type 0) (config : Config) (old new : S)
    (unread left before after : Option (List ℕ)) (first h : History)
    → first ≡ new_history
    → ((more : List ℕ) × Consumes unread left more × (h.received ≡ first.received ++ more))
    → ((more : List ℕ) × Appends before after more × (h.sent ≡ first.sent ++ more))
    → Calls answers old new first.calls h.calls
    → ∥ IsServed config h ∥₁
    → Conversation answers config old new unread left before after h
from_the_start answers config old new unread left before after first h begins read written called served =
    let received = read.2 ∙ ap (λ (f : History). f.received ++ read.0) begins in
    let sent = written.2 ∙ ap (λ (f : History). f.sent ++ written.0) begins in
    let calls = called.1 ∙ ap (λ (f : History). f.calls ++ called.0) begins in (
      served,
      subst (λ them. Chain answers old them new) (sym calls) called.2,
      subst (λ (bytes : List ℕ). Consumes unread left bytes) (sym received) read.1,
      subst (λ (bytes : List ℕ). Appends before after bytes) (sym sent) written.1,
    )
