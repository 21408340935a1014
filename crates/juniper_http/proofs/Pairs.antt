-- Parameters that are read pair by pair.
use Rattle.std.proofs.Common.{◌≡◌, ℕ, List, ◌∷◌, codes, Option, Some, None, Result, Ok, IfOk, String, Global, string_bytes, refl, subst, ◌∙◌}
use Rattle.std.specs.Option.{option_or}
use Rattle.std.specs.declared.alloc.AllocError.{AllocError}
use Rattle.form_urlencoded.specs.Form.{DecodesTo}
use Rattle.juniper_http.specs.Parameters.{Given, form_text, given_by, last_value, value_at, with_value}

-- the parameters that these pairs give; of a name that they do not have, what was given before
abbrev pub behind : List (List ℕ × List ℕ) → Given → Given
behind pairs g = record {
  query = option_or (last_value (codes "query") pairs) g.query;
  operation_name = option_or (last_value (codes "operationName") pairs) g.operation_name;
  variables = option_or (last_value (codes "variables") pairs) g.variables;
  extensions = option_or (last_value (codes "extensions") pairs) g.extensions;
}

or_assoc : (a b c : Option (List ℕ)) → option_or a (option_or b c) ≡ option_or (option_or a b) c
or_assoc None b c = refl
or_assoc (Some x) b c = refl

or_none : (a : Option (List ℕ)) → option_or a None ≡ a
or_none None = refl
or_none (Some x) = refl

-- one pair is taken
pub taken_pair : (name value : List ℕ) (pairs : List (List ℕ × List ℕ)) (g : Given)
    → behind pairs (with_value (form_text name) (form_text value) g) ≡ behind ((name, value) ∷ pairs) g
taken_pair name value pairs g =
    let at : (wanted : List ℕ) (before : Option (List ℕ))
    → option_or (last_value wanted pairs) (option_or (value_at wanted (form_text name) (form_text value)) before)
    ≡ option_or (last_value wanted ((name, value) ∷ pairs)) before
    = λ wanted before. or_assoc (last_value wanted pairs) (value_at wanted (form_text name) (form_text value)) before in
    rw (at (codes "query") g.query) (rw (at (codes "operationName") g.operation_name) (rw (at (codes "variables") g.variables)
    (rw (at (codes "extensions") g.extensions) refl)))

-- before any is taken
pub behind_nothing : (pairs : List (List ℕ × List ℕ))
    → behind pairs (record { query = None; operation_name = None; variables = None; extensions = None }) ≡ given_by pairs
behind_nothing pairs =
    rw (or_none (last_value (codes "query") pairs)) (rw (or_none (last_value (codes "operationName") pairs))
    (rw (or_none (last_value (codes "variables") pairs)) (rw (or_none (last_value (codes "extensions") pairs)) refl)))

read_text : (bytes text : List ℕ) → DecodesTo bytes text → text ≡ form_text bytes
read_text bytes text h = h.2

read_pair : (name value n v : List ℕ) → DecodesTo name n × DecodesTo value v → (n ≡ form_text name) × (v ≡ form_text value)
read_pair name value n v (first, second) = (read_text name n first, read_text value v second)

-- The iterator's next pair is taken: it stands first in what is left, and it was decoded.
pub one_more : (left rest : List (List ℕ × List ℕ)) (item : Result (String Global × String Global) AllocError)
    (n v : String Global) (key : List ℕ) (g made whole : Given)
    → (name : List ℕ) × (value : List ℕ) × (left ≡ (name, value) ∷ rest)
    × IfOk item (λ pair. DecodesTo name (string_bytes pair.0) × DecodesTo value (string_bytes pair.1))
    → item ≡ Ok (n, v) → key ≡ string_bytes n → made ≡ with_value key (string_bytes v) g → behind left g ≡ whole → behind rest made ≡ whole
one_more left rest item n v key g made whole h was is_key is_made so_far =
    let decoded : DecodesTo h.0 (string_bytes n) × DecodesTo h.1 (string_bytes v)
    = subst (λ i. IfOk i (λ pair. DecodesTo h.0 (string_bytes pair.0) × DecodesTo h.1 (string_bytes pair.1))) was h.3 in
    let texts = read_pair h.0 h.1 (string_bytes n) (string_bytes v) decoded in
    rw is_made (rw is_key (rw texts.0 (rw texts.1 (taken_pair h.0 h.1 rest g ∙ subst (λ l. behind l g ≡ whole) h.2 so_far))))
