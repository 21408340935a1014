-- Batches: each member is answered in turn.
use Rattle.std.specs.Prelude.{◌≡◌, ◌⊎◌, ◌-◌, ℕ, Bool, true, cond, nat_le, length, List, [], ◌∷◌, ◌++◌, codes, string_bytes, Option, Some, None, Result, Ok, Err}
use Rattle.std.specs.List.{join_with_byte}
use Rattle.serde_json.specs.Data.{Data}
use Rattle.juniper_request.specs.Requests.{Asked, request_in}
use Rattle.juniper_request.specs.declared.error.RequestError.{RequestError}
use Rattle.juniper_http.specs.Outcomes.{reply_text}
use Rattle.juniper_http.specs.Refusals.{refusal_text}
use Rattle.juniper_http.specs.declared.endpoint.Reply.{Reply}
use Rattle.juniper_http.specs.declared.outcome.Outcome.TheVariants.{Executed, OutOfMemory}
use Rattle.juniper_http.specs.declared.refusal.Refusal.TheVariants.{LongAnswer, NotARequest}

-- how many of these bytes are left behind so many more; none if there are more
unfoldable pub less : ℕ → ℕ → Option ℕ
less left spent = cond (nat_le spent left) (Some (left - spent)) None

-- the same behind a reply of this text; what is no request takes none
abbrev pub left_behind : Result Asked RequestError → ℕ → List ℕ → Option ℕ
left_behind (Ok asked) left text = less left (length text)
left_behind (Err e) left text = Some left

module _ {S : Type 0} where
  -- A request is put, and the text is its reply's; what is no request changes nothing, and the text says why.
  abbrev pub PutsAsked : (S → Asked → Bool → Reply → S → Type 0) → Result Asked RequestError → S → List ℕ → S → Type 0
  PutsAsked replies (Ok asked) s text t = (reply : Reply) × replies s asked true reply t × (text ≡ reply_text reply.outcome (string_bytes reply.line))
  PutsAsked replies (Err e) s text t = (t ≡ s) × (text ≡ refusal_text (NotARequest e))

  abbrev pub PutsMember : (S → Asked → Bool → Reply → S → Type 0) → Data → S → List ℕ → S → Type 0
  PutsMember replies d s text t = PutsAsked replies (request_in d) s text t

  -- A member is put while bytes of replies are left, and then `rest` is; else it changes nothing, and the text says why.
  abbrev pub PutsWithin : (S → Asked → Bool → Reply → S → Type 0) → Option ℕ → Data → S → List ℕ → S → Option ℕ → Type 0
  PutsWithin replies None d s text t rest = (t ≡ s) × (text ≡ refusal_text LongAnswer) × (rest ≡ None)
  PutsWithin replies (Some left) d s text t rest = PutsMember replies d s text t × (rest ≡ left_behind (request_in d) left text)

  -- The members in turn, each from the state that the one before left, with the texts that answer them. So many bytes of replies are left
  -- before, and `rest` behind.
  abbrev pub PutsEach : (S → Asked → Bool → Reply → S → Type 0) → Option ℕ → List Data → S → List (List ℕ) → S → Option ℕ → Type 0
  PutsEach replies left [] s texts t rest = (t ≡ s) × (texts ≡ []) × (rest ≡ left)
  PutsEach replies left (d ∷ ds) s texts t rest =
      (text : List ℕ) × (later : List (List ℕ)) × (next : S) × (between : Option ℕ) × (texts ≡ text ∷ later) × PutsWithin replies left d s text next between
      × PutsEach replies between ds next later t rest

-- an array of these texts
abbrev pub array_text : List (List ℕ) → List ℕ
array_text texts = codes "[" ++ join_with_byte 44 texts ++ codes "]"

-- The members are put in turn, while their replies have at most so many bytes together, and the reply is an array of the texts that answer them; or
-- memory is refused.
abbrev pub IsBatchReply : {S : Type 0} → (S → Asked → Bool → Reply → S → Type 0) → ℕ → List Data → S → Reply → S → Type 0
IsBatchReply replies most ds s reply t =
    (texts : List (List ℕ)) × (rest : Option ℕ) × PutsEach replies (Some most) ds s texts t rest
    × (((reply.outcome ≡ Executed) × (string_bytes reply.line ≡ array_text texts)) ⊎ (reply.outcome ≡ OutOfMemory))
