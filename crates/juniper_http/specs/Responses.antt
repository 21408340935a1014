-- What a response says.
use Rattle.std.specs.Prelude.{◌⊎◌, ℕ, List, [], ◌∷◌, ◌++◌, codes}
use Rattle.http_server.specs.declared.response.Response.{Response}
use Rattle.http_server.specs.Response.{IsResponse}
use Rattle.juniper_http.specs.Media.{media_text}
use Rattle.juniper_http.specs.Outcomes.{reply_text, status_of}
use Rattle.juniper_http.specs.Refusals.{refusal_status, refusal_text}
use Rattle.juniper_http.specs.declared.media.MediaType.{MediaType}
use Rattle.juniper_http.specs.declared.media.MediaType.TheVariants.{Json}
use Rattle.juniper_http.specs.declared.outcome.Outcome.{Outcome}
use Rattle.juniper_http.specs.declared.outcome.Outcome.TheVariants.{Executed, Refused, Writes, OutOfMemory}
use Rattle.juniper_http.specs.declared.page.TheConstants.{PAGE}
use Rattle.juniper_http.specs.declared.refusal.Refusal.{Refusal}
use Rattle.juniper_http.specs.declared.refusal.Refusal.TheVariants.{NotFound, Method, NotAcceptable, MediaType as OtherType, Coding, TooLarge, NotJson}
use Rattle.juniper_http.specs.declared.refusal.Refusal.TheVariants.{NotARequest, EmptyBatch, LongBatch, LongAnswer}

-- the name and the value of a field
abbrev pub Header : Type 0
Header = List ℕ × List ℕ

abbrev pub content_type : List ℕ → Header
content_type value = (codes "content-type", value)

-- the methods that are answered (RFC 9110, section 10.2.1), of which a 405 and an answer to OPTIONS tell (sections 15.5.6 and 9.3.7)
abbrev pub allow : List ℕ → Header
allow methods = (codes "allow", methods)

abbrev pub all_methods : List ℕ
all_methods = codes "GET, HEAD, POST, OPTIONS"

-- the codings of bodies that are taken, of which a 415 tells: none (section 15.5.16)
abbrev pub no_coding : Header
no_coding = (codes "accept-encoding", codes "identity")

-- the fields of an answer
abbrev pub reply_fields : Outcome → MediaType → List Header
reply_fields Executed media = content_type (media_text media) ∷ []
reply_fields Refused media = content_type (media_text media) ∷ []
reply_fields Writes media = content_type (media_text media) ∷ allow (codes "POST") ∷ []
reply_fields OutOfMemory media = content_type (media_text media) ∷ []

-- The response has a reply's status, fields and line behind the fields that it had; or, where memory is refused, status 500 and nothing else.
abbrev pub Says : List Header → MediaType → Outcome → List ℕ → Response → Type 0
Says before media outcome line r =
    IsResponse (status_of outcome media) (before ++ reply_fields outcome media) (reply_text outcome line) r ⊎ IsResponse 500 [] [] r

-- the fields of a refusal
abbrev pub refusal_fields : Refusal → List Header
refusal_fields NotFound = content_type (media_text Json) ∷ []
refusal_fields Method = content_type (media_text Json) ∷ allow all_methods ∷ []
refusal_fields NotAcceptable = content_type (media_text Json) ∷ []
refusal_fields OtherType = content_type (media_text Json) ∷ []
refusal_fields Coding = content_type (media_text Json) ∷ no_coding ∷ []
refusal_fields TooLarge = content_type (media_text Json) ∷ []
refusal_fields LongBatch = content_type (media_text Json) ∷ []
refusal_fields LongAnswer = content_type (media_text Json) ∷ []
refusal_fields (NotJson fault) = content_type (media_text Json) ∷ []
refusal_fields (NotARequest e) = content_type (media_text Json) ∷ []
refusal_fields EmptyBatch = content_type (media_text Json) ∷ []

-- the response says why a request is refused
abbrev pub IsRefusal : List Header → Refusal → Response → Type 0
IsRefusal before why r = IsResponse (refusal_status why) (before ++ refusal_fields why) (refusal_text why) r

-- the response tells which methods are answered, and has no body
abbrev pub TellsMethods : List Header → Response → Type 0
TellsMethods before r = IsResponse 204 (before ++ allow all_methods ∷ []) [] r

-- The page may run its own script and ask its own server, and load nothing.
abbrev pub page_fields : List Header
page_fields =
    content_type (codes "text/html; charset=utf-8")
    ∷ (
      codes "content-security-policy",
      codes "default-src 'none'; script-src 'unsafe-inline'; style-src 'unsafe-inline'; connect-src 'self'; frame-ancestors 'none'",
    )
    ∷ (codes "x-content-type-options", codes "nosniff") ∷ []

-- the response is the page
abbrev pub IsPage : List Header → Response → Type 0
IsPage before r = IsResponse 200 (before ++ page_fields) PAGE.now r
