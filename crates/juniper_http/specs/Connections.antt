-- What a connection reads and writes, from its first byte on.
use Rattle.std.specs.Prelude.{ℕ, List, Option}
use Rattle.std.specs.Io.KnownBytes.{Appends, Consumes}
use Rattle.http.specs.declared.request.Request.{Request}
use Rattle.http_server.specs.declared.response.Response.{Response}
use Rattle.http_server.specs.declared.state.Config.{Config}
use Rattle.http_server.specs.Exchange.{Chain}
use Rattle.http_server.specs.History.{History, IsServed}

-- What a connection did, which began with nothing: it received what was read of the reader, and sent what was written to the writer; its calls led the
-- service, one after another, from the one state to the other. What was sent, and then what is pending, is the answers to the requests that were
-- received, in order (`IsServed`).
abbrev pub Conversation : {S : Type 0} → (S → Request (List ℕ) → Response → S → Type 0) → Config → S → S → Option (List ℕ) → Option (List ℕ)
    → Option (List ℕ) → Option (List ℕ) → History → Type 0
Conversation answers config old new unread left before after h =
    ∥ IsServed config h ∥₁ × Chain answers old h.calls new × Consumes unread left h.received × Appends before after h.sent
