-- The token that a request brings.
use Rattle.std.specs.Prelude.{◌≡◌, ℕ, ◌==◌, List, [], ◌∷◌, Option, Some, None, codes, if◌then◌else◌}
use Rattle.std.specs.List.{after_first, before_first}
use Rattle.std.specs.Str.{str_eq_ignore_ascii_case, trim}
use Rattle.http.specs.declared.request.Request.{Request}
use Rattle.http.specs.Request.{head_of}
use Rattle.http_header.specs.FieldValue.{FieldValue, IsVisibleAscii}
use Rattle.http_header.specs.HeaderMap.{get_all}

-- what stands behind the scheme `Bearer` and a blank (RFC 6750, section 2.1); the scheme's letters are of either case (RFC 9110, section 11.1)
abbrev pub bearer_in : List ℕ → Option (List ℕ)
bearer_in text =
    if str_eq_ignore_ascii_case (before_first (λ b. b == 32) text) (codes "bearer") then Some (trim (after_first (λ b. b == 32) text)) else None

-- The same of a line of the field. One that holds what is not visible ASCII brings none.
abbrev pub IsLineToken : FieldValue → Option (List ℕ) → Type 0
IsLineToken v token = (IsVisibleAscii v.bytes → token ≡ bearer_in v.bytes) × (¬ (IsVisibleAscii v.bytes) → token ≡ None)

-- The same of the field's lines. It has one line (RFC 9110, section 5.3); where there is none, or several, no token is brought.
abbrev pub IsFieldToken : List FieldValue → Option (List ℕ) → Type 0
IsFieldToken [] token = token ≡ None
IsFieldToken (v ∷ []) token = IsLineToken v token
IsFieldToken (v ∷ w ∷ vs) token = token ≡ None

-- the token that a request brings in its field `authorization`
abbrev pub IsBearerToken : Request (List ℕ) → Option (List ℕ) → Type 0
IsBearerToken r token = IsFieldToken (get_all (head_of r).headers (codes "authorization")) token
