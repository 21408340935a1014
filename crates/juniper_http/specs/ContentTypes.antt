-- What the fields of a request say of its body (RFC 9110, sections 8.3 and 8.4).
use Rattle.std.specs.Prelude.{◌≡◌, ℕ, ◌==◌, ◌||◌, ◌&&◌, not, List, [], ◌∷◌, Bool, true, false, if◌then◌else◌, codes, length, map}
use Rattle.std.specs.Char.{to_ascii_lowercase}
use Rattle.std.specs.List.{after_first, before_first, list_all, slice_split}
use Rattle.std.specs.Str.{bytes_eq, str_eq_ignore_ascii_case, trim}
use Rattle.http_header.specs.FieldValue.{FieldValue, IsVisibleAscii, is_visible_text}
use Rattle.juniper_http.specs.declared.decision.Body.{Body}
use Rattle.juniper_http.specs.declared.decision.Body.TheVariants.{Json, Document, Coded, Other}

-- UTF-8, in quotes or not
abbrev pub is_utf8 : List ℕ → Bool
is_utf8 value = bytes_eq value (codes "utf-8") || bytes_eq value (codes "\"utf-8\"")

-- A parameter, `name=value`, does not name another coding of characters.
unfoldable pub is_fine : List ℕ → Bool
is_fine p = not (bytes_eq (trim (before_first (λ b. b == 61) p)) (codes "charset")) || is_utf8 (trim (after_first (λ b. b == 61) p))

-- the body that a media type names
abbrev pub type_named : List ℕ → Body
type_named name = if bytes_eq name (codes "application/json") then Json else (if bytes_eq name (codes "application/graphql") then Document else Other)

-- a media type, and then parameters, between semicolons; one within quotes cuts too
abbrev pub lower_type : List ℕ → Body
lower_type t =
    if list_all is_fine (slice_split (λ b. b == 59) (after_first (λ b. b == 59) t)) then type_named (trim (before_first (λ b. b == 59) t)) else Other

-- Its letters are of either case.
abbrev pub content_type_of : List ℕ → Body
content_type_of t = lower_type (map to_ascii_lowercase t)

-- The same of a line of the field. One that holds what is not visible ASCII says nothing.
abbrev pub IsLineType : FieldValue → Body → Type 0
IsLineType v b = (IsVisibleAscii v.bytes → b ≡ content_type_of v.bytes) × (¬ (IsVisibleAscii v.bytes) → b ≡ Other)

-- The same of the field's lines. It has one line (section 5.3); where there is none, or several, nothing is said.
abbrev pub IsFieldType : List FieldValue → Body → Type 0
IsFieldType [] b = b ≡ Other
IsFieldType (v ∷ []) b = IsLineType v b
IsFieldType (v ∷ w ∷ vs) b = b ≡ Other

-- ## Codings

-- A member of a list of codings leaves a body as it is: it names `identity`, whose letters are of either case, or nothing (sections 8.4.1 and 5.6.1).
abbrev pub is_identity : List ℕ → Bool
is_identity coding = (length (trim coding) == 0) || str_eq_ignore_ascii_case (trim coding) (codes "identity")

-- a line of `content-encoding` leaves a body as it is: each member between commas does
abbrev pub is_plain_line : FieldValue → Bool
is_plain_line v = is_visible_text v.bytes && list_all is_identity (slice_split (λ b. b == 44) v.bytes)

-- all lines do (section 5.3)
abbrev pub are_plain : List FieldValue → Bool
are_plain codings = list_all is_plain_line codings

-- ## Bodies

abbrev pub IsPlainType : Bool → List FieldValue → Body → Type 0
IsPlainType true types b = IsFieldType types b
IsPlainType false types b = b ≡ Coded

-- what the lines of `content-encoding` and of `content-type` say of a body; of one with a coding the type says nothing
abbrev pub IsBodyType : List FieldValue → List FieldValue → Body → Type 0
IsBodyType codings types b = IsPlainType (are_plain codings) types b
