-- Requests that a guarded endpoint denies, before anything of them is put to it.
use Rattle.std.specs.Prelude.{◌⊎◌, ℕ, List, [], ◌∷◌, ◌++◌, codes}
use Rattle.http_server.specs.declared.response.Response.{Response}
use Rattle.http_server.specs.Response.{IsResponse}
use Rattle.juniper_http.specs.Media.{media_text}
use Rattle.juniper_http.specs.Responses.{Header, content_type}
use Rattle.juniper_http.specs.declared.denial.Denial.{Denial}
use Rattle.juniper_http.specs.declared.denial.Denial.TheVariants.{Unauthorized, Forbidden, OutOfMemory}
use Rattle.juniper_http.specs.declared.media.MediaType.{MediaType}

-- The status of a denial (RFC 9110, sections 15.5.2 and 15.5.4). It is the same for both media types ("GraphQL over HTTP", status codes: a server may
-- forbid requests for any reason, and should say so by a 4xx status).
abbrev pub denial_status : Denial → ℕ
denial_status (Unauthorized challenge) = 401
denial_status Forbidden = 403
denial_status OutOfMemory = 500

-- what is told of it
abbrev pub denial_message : Denial → List ℕ
denial_message (Unauthorized challenge) = codes "authentication is required"
denial_message Forbidden = codes "the request is forbidden"
denial_message OutOfMemory = codes "Out of memory"

-- its body: errors, and no data
abbrev pub denial_text : Denial → List ℕ
denial_text why = codes "{\"errors\":[{\"message\":\"" ++ denial_message why ++ codes "\"}]}"

-- Its fields. A 401 has the challenge that says how to authenticate (RFC 9110, section 11.6.1).
abbrev pub denial_fields : Denial → MediaType → List Header
denial_fields (Unauthorized challenge) media = content_type (media_text media) ∷ (codes "www-authenticate", challenge.bytes) ∷ []
denial_fields Forbidden media = content_type (media_text media) ∷ []
denial_fields OutOfMemory media = content_type (media_text media) ∷ []

-- the response says why a request is denied
abbrev pub IsDenial : List Header → MediaType → Denial → Response → Type 0
IsDenial before media why r = IsResponse (denial_status why) (before ++ denial_fields why media) (denial_text why) r

-- or, where memory is refused, it has status 500 and nothing else
abbrev pub Denies : List Header → MediaType → Denial → Response → Type 0
Denies before media why r = IsDenial before media why r ⊎ IsResponse 500 [] [] r
