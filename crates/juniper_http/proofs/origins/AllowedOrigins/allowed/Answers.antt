use Rattle.std.proofs.Common.{◌≡◌, ℕ, List, Bool, true, false, if◌then◌else◌, Some, None, Bor, sym, ap, ◌∙◌}
use Rattle.std.specs.List.{list_any}
use Rattle.std.specs.Str.{bytes_eq}
use Rattle.http_header.specs.FieldValue.{FieldValue}
use Rattle.juniper_http.specs.Origins.{allowed}
use Rattle.juniper_http.specs.declared.origins.AllowedOrigins.TheVariants.{Listed}
use Rattle.juniper_http.proofs.origins.AllowedOrigins.allowed.Goals as goal

-- the test says whether an origin is one of a list
abbrev IsTested : Bor (List (Bor (List ℕ))) → List ℕ → Bool → Type 0
IsTested them o t = t ≡ list_any (λ one. bytes_eq one.now o) them.now

is_taken : (them : Bor (List (Bor (List ℕ)))) (value copy : FieldValue) (shown : List ℕ) (t : Bool) → shown ≡ value.bytes → IsTested them shown t → t ≡ true
    → copy ≡ value → Some copy.bytes ≡ allowed (Listed them) (Some value.bytes)
is_taken them value copy shown t e is passes same =
    rw same (ap (λ b. if b then Some value.bytes else None) (sym passes ∙ is ∙ ap (λ o. list_any (λ one. bytes_eq one.now o) them.now) e))

is_left : (them : Bor (List (Bor (List ℕ)))) (value : FieldValue) (shown : List ℕ) (t : Bool) → shown ≡ value.bytes → IsTested them shown t → t ≡ false
    → None ≡ allowed (Listed them) (Some value.bytes)
is_left them value shown t e is fails =
    ap (λ b. if b then Some value.bytes else None) (sym fails ∙ is ∙ ap (λ o. list_any (λ one. bytes_eq one.now o) them.now) e)

pub returns-in_ok-clone-in-true : goal.returns-in_ok-clone-in-true
returns-in_ok-clone-in-true c =
    rw c.in-Listed-Some.is-0 (rw c.in-Listed-Some.is-1 (is_taken c.in-Listed-Some.them c.in-Listed-Some.value.now c.in_ok-clone-in-true.field-0
    c.as_bytes.result.now c.is_one_of.result c.as_bytes.ensures.value c.is_one_of.ensures c.in-true.is c.in_ok-clone-in-true.ensures.cases))

pub returns-in-false : goal.returns-in-false
returns-in-false c =
    rw c.in-Listed-Some.is-0 (rw c.in-Listed-Some.is-1 (is_left c.in-Listed-Some.them c.in-Listed-Some.value.now c.as_bytes.result.now c.is_one_of.result
    c.as_bytes.ensures.value c.is_one_of.ensures c.in-false.is))
