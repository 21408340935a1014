-- Which media type an answer has (RFC 9110, section 12.5.1).
use Rattle.std.specs.Prelude.{ℕ, ◌+◌, ◌-◌, ◌*◌, ◌==◌, ◌&&◌, Bool, List, [], ◌∷◌, length, slice_index, nat_le, nat_lt, if◌then◌else◌, Option, Some, None}
use Rattle.std.specs.Prelude.{option_map, option_and_then, codes}
use Rattle.std.specs.Char.{is_ascii_digit}
use Rattle.std.specs.List.{after_first, before_first, filter_map, flat_map, list_all, position_or_len, slice_split}
use Rattle.std.specs.Str.{bytes_eq, str_eq_ignore_ascii_case, trim}
use Rattle.http_header.specs.FieldValue.{FieldValue, is_visible_text}
use Rattle.juniper_http.specs.declared.accept.Range.{Range}
use Rattle.juniper_http.specs.declared.media.MediaType.{MediaType}
use Rattle.juniper_http.specs.declared.media.MediaType.TheVariants.{GraphqlResponse, Json}

-- a media range, and its weight in thousandths
pub record Ranged : Type 0 where
  pub main : List ℕ
  pub sub : List ℕ
  pub weight : ℕ

abbrev pub view_range : Range → Ranged
view_range r = record { main = r.main.now; sub = r.sub.now; weight = r.weight }

-- ## How the field is written

-- the texts before and behind the first such byte; None where there is none
abbrev pub cut_at : ℕ → List ℕ → Option (List ℕ × List ℕ)
cut_at c text =
    if nat_lt (position_or_len (λ b. b == c) text) (length text) then Some (before_first (λ b. b == c) text, after_first (λ b. b == c) text) else None

-- the digit at a place; 0 behind the last
abbrev pub digit_at : ℕ → List ℕ → ℕ
digit_at i digits = if nat_lt i (length digits) then slice_index digits i - 48 else 0

-- the thousandths of a 0 with these digits behind its dot, or of a 1 with zeros; others say 0
abbrev pub weighed : List ℕ → List ℕ → ℕ
weighed whole decimals =
    if bytes_eq whole (codes "0") then 100 * digit_at 0 decimals + 10 * digit_at 1 decimals + digit_at 2 decimals
    else (if (bytes_eq whole (codes "1") && list_all (λ b. b == 48) decimals) then 1000 else 0)

-- at most three digits
abbrev pub are_decimals : List ℕ → Bool
are_decimals digits = nat_le (length digits) 3 && list_all is_ascii_digit digits

-- The thousandths of a weight: of a number from 0 to 1 with at most three digits behind its dot (section 12.4.2). What is no weight weighs nothing.
abbrev pub thousandths : List ℕ → ℕ
thousandths t =
    if are_decimals (after_first (λ b. b == 46) t) then weighed (before_first (λ b. b == 46) t) (after_first (λ b. b == 46) t) else 0

abbrev pub weight_named : List ℕ × List ℕ → Option ℕ
weight_named (name, value) = if str_eq_ignore_ascii_case (trim name) (codes "q") then Some (thousandths (trim value)) else None

-- the weight that a parameter gives, if it is `q=weight`
abbrev pub weight_given : List ℕ → Option ℕ
weight_given parameter = option_and_then weight_named (cut_at 61 parameter)

abbrev pub first_or_full : List ℕ → ℕ
first_or_full [] = 1000
first_or_full (w ∷ ws) = w

-- the weights that parameters give, between semicolons
abbrev pub weights_in : List ℕ → List ℕ
weights_in parameters = filter_map weight_given (slice_split (λ b. b == 59) parameters)

-- the first of them; 1000 where there is none
abbrev pub weight_by : List ℕ → ℕ
weight_by parameters = first_or_full (weights_in parameters)

abbrev pub range_by : List ℕ → List ℕ × List ℕ → Ranged
range_by parameters (main, sub) = record { main = trim main; sub = trim sub; weight = weight_by parameters }

-- A media range, `main/sub`, and then parameters; what has no slash is none.
abbrev pub range_of : List ℕ → Option Ranged
range_of part = option_map (range_by (after_first (λ b. b == 59) part)) (cut_at 47 (before_first (λ b. b == 59) part))

-- The ranges of a text, between commas. A comma or a semicolon within quotes cuts too.
abbrev pub ranges_in : List ℕ → List Ranged
ranges_in text = filter_map range_of (slice_split (λ b. b == 44) text)

-- the ranges of one line of the field; a line that is not visible ASCII has none
abbrev pub field_ranges : FieldValue → List Ranged
field_ranges v = if is_visible_text v.bytes then ranges_in v.bytes else []

-- the ranges of all its lines, in order (section 5.3)
abbrev pub ranges_of : List FieldValue → List Ranged
ranges_of vs = flat_map field_ranges vs

-- ## What is chosen

-- the weight of the first range of these names, whose letters are of either case
abbrev pub found : List Ranged → List ℕ → List ℕ → Option ℕ
found [] main sub = None
found (r ∷ rs) main sub =
    if (str_eq_ignore_ascii_case r.main main && str_eq_ignore_ascii_case r.sub sub) then Some r.weight else found rs main sub

-- the first of two
abbrev pub or_else : Option ℕ → Option ℕ → Option ℕ
or_else None b = b
or_else (Some a) b = Some a

abbrev pub or_zero : Option ℕ → ℕ
or_zero None = 0
or_zero (Some a) = a

-- the weight of a media type: that of the most exact range that takes it
abbrev pub weight : List Ranged → List ℕ → List ℕ → ℕ
weight rs main sub = or_zero (or_else (found rs main sub) (or_else (found rs main (codes "*")) (found rs (codes "*") (codes "*"))))

-- the heavier of two media types, and the first of two that weigh the same; None where neither is taken
abbrev pub heavier : ℕ → ℕ → Option MediaType
heavier own json = if (own == 0 && json == 0) then None else (if nat_lt own json then Some Json else Some GraphqlResponse)

abbrev pub choice : List Ranged → Option MediaType
choice rs = heavier (weight rs (codes "application") (codes "graphql-response+json")) (weight rs (codes "application") (codes "json"))

-- whether a page is taken before any answer
abbrev pub prefers_page : List Ranged → Bool
prefers_page rs =
    nat_lt (weight rs (codes "application") (codes "graphql-response+json")) (weight rs (codes "text") (codes "html"))
    && nat_lt (weight rs (codes "application") (codes "json")) (weight rs (codes "text") (codes "html"))
