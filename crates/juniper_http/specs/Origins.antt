-- Which pages of other origins may read an answer: the CORS protocol (Fetch standard, section 3.3).
use Rattle.std.specs.Prelude.{ℕ, Bool, true, false, ◌&&◌, List, [], ◌∷◌, ◌++◌, Option, Some, None, is_some, option_and_then, if◌then◌else◌, codes}
use Rattle.std.specs.List.{list_any}
use Rattle.std.specs.Str.{bytes_eq}
use Rattle.http.specs.declared.request.Request.{Request}
use Rattle.http.specs.Request.{head_of}
use Rattle.http_header.specs.FieldValue.{FieldValue}
use Rattle.http_header.specs.HeaderMap.{get, get_all}
use Rattle.juniper_http.specs.Responses.{Header, all_methods}
use Rattle.juniper_http.specs.declared.origins.AllowedOrigins.{AllowedOrigins}
use Rattle.juniper_http.specs.declared.origins.AllowedOrigins.TheVariants.{Own, Any, Listed}

-- the value of a field that has one line; a field `origin` of several names no origin (RFC 9110, section 5.3)
abbrev pub only_line : List FieldValue → Option (List ℕ)
only_line [] = None
only_line (v ∷ []) = Some v.bytes
only_line (v ∷ w ∷ vs) = None

-- the origin from which a request comes (section 3.2)
abbrev pub origin_of : Request (List ℕ) → Option (List ℕ)
origin_of r = only_line (get_all (head_of r).headers (codes "origin"))

abbrev pub has_field : List ℕ → Request (List ℕ) → Bool
has_field name r = is_some (get (head_of r).headers name)

-- A CORS-preflight request asks with which methods and fields a request may come (section 3.3.2).
abbrev pub is_preflight : Request (List ℕ) → Bool
is_preflight r = bytes_eq (head_of r).method (codes "OPTIONS") && (has_field (codes "origin") r && has_field (codes "access-control-request-method") r)

-- The value of `access-control-allow-origin` (section 3.3.3), where there is one: the origin of the request, if it is one of the list, byte for byte; or
-- any, whatever the request says (section "CORS protocol and HTTP caches").
abbrev pub allowed : AllowedOrigins → Option (List ℕ) → Option (List ℕ)
allowed Own origin = None
allowed Any origin = Some (codes "*")
allowed (Listed them) origin = option_and_then (λ o. if list_any (λ one. bytes_eq one.now o) them.now then Some o else None) origin

-- with which methods and fields a request may come, and for how many seconds this holds (section 3.3.3)
abbrev pub preflight_fields : Bool → List Header
preflight_fields false = []
preflight_fields true =
    (codes "access-control-allow-methods", all_methods)
    ∷ (codes "access-control-allow-headers", codes "content-type, accept, authorization")
    ∷ (codes "access-control-max-age", codes "600") ∷ []

abbrev pub allow_fields : Option (List ℕ) → Bool → List Header
allow_fields None preflight = []
allow_fields (Some origin) preflight = (codes "access-control-allow-origin", origin) ∷ preflight_fields preflight

-- an answer goes by the origin of its request (section "CORS protocol and HTTP caches"), also where none is named
abbrev pub vary_fields : AllowedOrigins → List Header
vary_fields Own = []
vary_fields Any = []
vary_fields (Listed them) = (codes "vary", codes "origin") ∷ []

-- what the answer to a request says of origins
abbrev pub origin_fields : AllowedOrigins → Request (List ℕ) → List Header
origin_fields origins r = allow_fields (allowed origins (origin_of r)) (is_preflight r) ++ vary_fields origins
