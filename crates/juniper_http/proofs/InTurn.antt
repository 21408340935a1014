-- The members of a batch, one after another.
use Rattle.std.proofs.Common.{◌≡◌, ℕ, suc, zero, ◌<◌, ◌≤◌, ◌⊎◌, List, [], ◌∷◌, ◌++◌, length, map, take, get_or, Bool, true, codes, string_bytes}
use Rattle.std.proofs.Common.{String, Global, None, Option, Some, Result, Ok, Err, IfOk, IfErr, IsOkAnd, append_assoc, refl, sym, ap, inl, inr, arith}
use Rattle.std.specs.List.{join_with_byte}
use Rattle.std.specs.declared.alloc.AllocError.{AllocError}
use Rattle.serde_json.specs.Data.{Data}
use Rattle.serde_json.specs.View.{view}
use Rattle.serde_json.specs.declared.value.Value.{Value}
use Rattle.juniper_request.specs.Requests.{Asked, request_in}
use Rattle.juniper_request.specs.declared.error.RequestError.{RequestError}
use Rattle.juniper_http.specs.Batches.{PutsEach, PutsWithin, array_text, less}
use Rattle.juniper_http.specs.Outcomes.{reply_text}
use Rattle.juniper_http.specs.Refusals.{refusal_text}
use Rattle.juniper_http.specs.declared.endpoint.Reply.{Reply}
use Rattle.juniper_http.specs.declared.outcome.Outcome.TheVariants.{Executed, OutOfMemory}
use Rattle.juniper_http.specs.declared.refusal.Refusal.TheVariants.{LongAnswer, NotARequest}

-- one more is put
pub put_next : {S : Type 0} (replies : S → Asked → Bool → Reply → S → Type 0) (left : Option ℕ) (ds : List Data) (d : Data) (s m t : S) (texts : List (List ℕ))
    (text : List ℕ) (between rest : Option ℕ) → PutsEach replies left ds s texts m between → PutsWithin replies between d m text t rest →
    PutsEach replies left (ds ++ d ∷ []) s (texts ++ text ∷ []) t rest
put_next replies left [] d s m t texts text between rest h p = (text, [], t, rest, rw h.1 refl, rw (sym h.0, sym h.2) p, (refl, refl, refl))
put_next replies left (e ∷ ds) d s m t texts text between rest h p =
    (h.0, h.1 ++ text ∷ [], h.2, h.3, rw h.4 refl, h.5, put_next replies h.3 ds d h.2 m t h.1 text between rest h.6 p)

-- a request, while bytes are left
pub put_asked : {S : Type 0} (replies : S → Asked → Bool → Reply → S → Type 0) (left : Option ℕ) (n : ℕ) (d : Data) (a : Asked) (s t : S) (reply : Reply)
    (text : List ℕ) (rest : Option ℕ) → left ≡ Some n → Ok a ≡ request_in d → replies s a true reply t →
    text ≡ reply_text reply.outcome (string_bytes reply.line) → rest ≡ less n (length text) → PutsWithin replies left d s text t rest
put_asked replies left n d a s t reply text rest some is r told behind = rw (some, sym is) ((reply, r, told), behind)

-- a member for whose reply no bytes are left
pub put_over : {S : Type 0} (replies : S → Asked → Bool → Reply → S → Type 0) (left : Option ℕ) (d : Data) (s : S) → left ≡ None →
    PutsWithin replies left d s (refusal_text LongAnswer) s left
put_over replies left d s none = rw none (refl, refl, refl)

-- what is no request
pub put_none : {S : Type 0} (replies : S → Asked → Bool → Reply → S → Type 0) (left : Option ℕ) (n : ℕ) (d : Data) (e : RequestError) (s : S) → left ≡ Some n →
    Err e ≡ request_in d → PutsWithin replies left d s (refusal_text (NotARequest e)) s left
put_none replies left n d e s some is = rw (some, sym is) ((refl, refl), refl)

-- the members so far, with the next
taken : (items : List Value) (i : ℕ) (x : Value) → i < length items → x ≡ get_or items i x
    → map view (take (suc i) items) ≡ map view (take i items) ++ view x ∷ []
taken [] i x l e = absurd (omega arith)
taken (v ∷ vs) zero x l e = rw e refl
taken (v ∷ vs) (suc i) x l e = ap (λ rest. view v ∷ rest) (taken vs i x (omega arith) e)

pub taken_to : (items : List Value) (i j : ℕ) (x : Value) → j ≡ suc i → i < length items → x ≡ get_or items i x
    → map view (take j items) ≡ map view (take i items) ++ view x ∷ []
taken_to items i j x n l e = rw n (taken items i x l e)

-- all of them
pub taken_all : (items : List Value) (i : ℕ) → length items ≤ i → take i items ≡ items
taken_all [] zero l = refl
taken_all [] (suc i) l = refl
taken_all (v ∷ vs) zero l = absurd (omega arith)
taken_all (v ∷ vs) (suc i) l = ap (λ rest. v ∷ rest) (taken_all vs i (omega arith))

-- what stands before the next text
abbrev pub before_next : List (List ℕ) → List ℕ
before_next [] = []
before_next (text ∷ texts) = codes ","

pub join_next : (texts : List (List ℕ)) (text : List ℕ) → join_with_byte 44 (texts ++ text ∷ []) ≡ join_with_byte 44 texts ++ before_next texts ++ text
join_next [] text = refl
join_next (x ∷ []) text = sym (append_assoc x (codes ",") text)
join_next (x ∷ y ∷ xs) text =
    rw (join_next (y ∷ xs) text) (rw (append_assoc x (44 ∷ join_with_byte 44 (y ∷ xs)) (codes ","))
    (sym (append_assoc x ((44 ∷ join_with_byte 44 (y ∷ xs)) ++ codes ",") text)))

pub comma_next : (texts : List (List ℕ)) (text : List ℕ) → codes "," ≡ before_next (texts ++ text ∷ [])
comma_next [] text = refl
comma_next (x ∷ xs) text = refl

abbrev pub Text : Type 0
Text = Result (String Global) AllocError

-- the text so far, with the next
pub text_next : (before middle after : Text) (texts : List (List ℕ)) (separator text : List ℕ)
    → IfOk before (λ b. string_bytes b ≡ codes "[" ++ join_with_byte 44 texts) → separator ≡ before_next texts
    → IfOk middle (λ m. IsOkAnd before (λ b. string_bytes m ≡ string_bytes b ++ separator))
    → IfOk after (λ a. IsOkAnd middle (λ m. string_bytes a ≡ string_bytes m ++ text))
    → IfOk after (λ a. string_bytes a ≡ codes "[" ++ join_with_byte 44 (texts ++ text ∷ []))
text_next before middle (Err e) texts separator text h s m a = tt
text_next before (Err e) (Ok c) texts separator text h s m a = absurd a
text_next (Err e) (Ok b) (Ok c) texts separator text h s m a = absurd m
text_next (Ok f) (Ok b) (Ok c) texts separator text h s m a =
    rw a (rw m (rw h (rw s (rw (join_next texts text) refl))))

-- the text, closed
pub closed : (before after : Text) (texts : List (List ℕ)) (reply : Reply)
    → IfOk before (λ b. string_bytes b ≡ codes "[" ++ join_with_byte 44 texts)
    → IfOk after (λ a. IsOkAnd before (λ b. string_bytes a ≡ string_bytes b ++ codes "]"))
    → IfOk after (λ a. (reply.outcome ≡ Executed) × (reply.line ≡ a)) → IfErr after (λ _. reply.outcome ≡ OutOfMemory)
    → ((reply.outcome ≡ Executed) × (string_bytes reply.line ≡ array_text texts)) ⊎ (reply.outcome ≡ OutOfMemory)
closed before (Err e) texts reply h a executed refused = inr refused
closed (Err e) (Ok c) texts reply h a executed refused = absurd a
closed (Ok b) (Ok c) texts reply h a executed refused = inl (executed.0, rw executed.1 (rw a (rw h refl)))
