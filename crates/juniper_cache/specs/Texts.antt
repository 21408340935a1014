-- Texts that are kept, the most recently used first (6.1).
use Rattle.std.specs.Prelude.{◌≡◌, ◌⊎◌, ◌-◌, ℕ, Bool, false, List, [], ◌∷◌, Some, None, String, Contains, Result, Ok, Err, cond, map, string_bytes, take}
use Rattle.std.specs.List.{list_any}
use Rattle.std.specs.Str.{bytes_eq}
use Rattle.std.specs.declared.alloc.Global.{Global}
use Rattle.graphql_spec.specs.Documents.{Document}
use Rattle.graphql_spec.specs.Outcomes.{Reads}
use Rattle.graphql_spec.specs.Rules.{rule_errors}
use Rattle.graphql_spec.specs.Schema.{Schema}
use Rattle.graphql_spec.specs.Shown.{Text}
use Rattle.juniper.specs.Objections.{has_more_fields, has_more_levels}
use Rattle.juniper.specs.declared.prepared.Bounds.{Bounds}
use Rattle.juniper.specs.declared.prepared.Objection.{Objection}
use Rattle.juniper.specs.declared.prepared.Objection.TheVariants.{Refused, TooDeep, TooLong, TooManyFields}

-- ## What is kept

-- a text is read, and its document has no more fields and levels than the bounds, and is valid (5)
abbrev pub IsAdmitted : Bounds → Schema → Bool → Text → Type 0
IsAdmitted b s disabled t = (Reads t None → ⊥) × ((d : Document) → Reads t (Some d) →
    (has_more_fields b.fields d ≡ false) × (has_more_levels b.levels d ≡ false) × (rule_errors s disabled d ≡ []))

-- so it is of the text of each entry
abbrev pub AreAdmitted : {V : Type 0} → Bounds → Schema → Bool → List (String Global × V) → Type 0
AreAdmitted {V} b s disabled es = (e : String Global × V) → Contains es e → IsAdmitted b s disabled (string_bytes e.0)

-- ## Which texts

-- the texts of entries
abbrev pub entry_texts : {V : Type 0} → List (String Global × V) → List Text
entry_texts es = map (λ e. string_bytes e.0) es

-- whether a text is one of these
unfoldable pub has_kept : List Text → Text → Bool
has_kept ts t = list_any (bytes_eq t) ts

-- these without the first that is this one
unfoldable pub taken_out : Text → List Text → List Text
taken_out t [] = []
taken_out t (x ∷ xs) = cond (bytes_eq t x) xs (x ∷ taken_out t xs)

-- these once a text is used, where at most so many are kept: it goes first, and if it is new, the last may have to go
unfoldable pub once_used : ℕ → Text → List Text → List Text
once_used most t ts = t ∷ cond (has_kept ts t) (taken_out t ts) (take (most - 1) ts)

-- Those that are left once a request is answered: of a text that was executed it is used; of one that passes a bound they are as they were;
-- and of one that is refused they are as they were, or it is used, and is one that may be kept.
abbrev pub AreLeft : {A : Type 0} → Type 0 → ℕ → Text → List Text → Result A Objection → List Text → Type 0
AreLeft admits most t ts (Ok x) after = after ≡ once_used most t ts
AreLeft admits most t ts (Err (Refused e)) after = (after ≡ ts) ⊎ ((after ≡ once_used most t ts) × admits)
AreLeft admits most t ts (Err TooLong) after = after ≡ ts
AreLeft admits most t ts (Err TooManyFields) after = after ≡ ts
AreLeft admits most t ts (Err TooDeep) after = after ≡ ts
