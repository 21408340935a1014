-- What a server has against a text: its own bounds, and why no request of it is executed (6.1).
use Rattle.std.specs.Prelude.{◌≡◌, ◌⊎◌, ◌≤◌, ◌<◌, ◌-◌, ◌^◌, ℕ, Bool, true, false, [], length, codes, Some, None, nat_lt}
use Rattle.std.specs.List.{list_any}
use Rattle.graphql_spec.specs.Shown.{Text}
use Rattle.graphql_spec.specs.Documents.{Document, fragments, operations}
use Rattle.graphql_spec.specs.Outcomes.{Reads}
use Rattle.graphql_spec.specs.Requests.{Refusal, not_parsed}
use Rattle.graphql_spec.specs.Rules.{rule_errors}
use Rattle.graphql_spec.specs.Schema.{Schema}
use Rattle.juniper_written.specs.ExpandedFields.{expanded_fields}
use Rattle.juniper_written.specs.ExpandedLevels.{expanded_levels}
use Rattle.juniper.specs.Answering.{IsInvalid, StandsFor}
use Rattle.juniper.specs.RequestErrors.{request_error_text, view_request_error}
use Rattle.juniper.specs.declared.prepared.Bounds.{Bounds}
use Rattle.juniper.specs.declared.prepared.Objection.{Objection}
use Rattle.juniper.specs.declared.prepared.Objection.TheVariants.{Refused, TooDeep, TooLong, TooManyFields}

-- an operation of the document has more fields than that, with every spread put in (2.8)
unfoldable pub has_more_fields : ℕ → Document → Bool
has_more_fields most d = list_any (λ o. nat_lt most (expanded_fields (2 ^ 64 - 1) (fragments d) o.selections)) (operations d)

-- an operation of the document has more levels than that, with every spread put in (2.8)
unfoldable pub has_more_levels : ℕ → Document → Bool
has_more_levels most d = list_any (λ o. nat_lt most (expanded_levels (2 ^ 64 - 1) (fragments d) o.selections)) (operations d)

module _ (b : Bounds) (text : Text) where
  -- the text is not too long, and is read as the document (2)
  abbrev pub IsRead : Document → Type 0
  IsRead d = (length text ≤ b.bytes) × Reads text (Some d)

  -- and no operation passes the bounds
  abbrev pub IsWithin : Document → Type 0
  IsWithin d = IsRead d × (has_more_fields b.fields d ≡ false) × (has_more_levels b.levels d ≡ false)

  -- and the document is valid (5)
  abbrev pub IsAccepted : Schema → Bool → Document → Type 0
  IsAccepted s disabled d = IsWithin d × (rule_errors s disabled d ≡ [])

  -- no document is read (2)
  abbrev pub IsUnread : Refusal → Type 0
  IsUnread r = (r ≡ not_parsed) × Reads text None

  -- what is against reading the text: of bytes, reading, fields and levels the first that fails
  abbrev pub ObjectsToRead : Objection → Type 0
  ObjectsToRead TooLong = b.bytes < length text
  ObjectsToRead TooManyFields = (d : Document) × IsRead d × (has_more_fields b.fields d ≡ true)
  ObjectsToRead TooDeep = (d : Document) × IsRead d × (has_more_fields b.fields d ≡ false) × (has_more_levels b.levels d ≡ true)
  ObjectsToRead (Refused e) = (length text ≤ b.bytes) × StandsFor IsUnread (view_request_error e)

  -- no document is read, or one within the bounds breaks rules
  abbrev pub IsRefusal : Schema → Bool → Refusal → Type 0
  IsRefusal s disabled r = IsUnread r ⊎ ((d : Document) × IsWithin d × IsInvalid s disabled d r)

  -- what is against the text: against reading it, or the rules (5)
  abbrev pub Objects : Schema → Bool → Objection → Type 0
  Objects s disabled TooLong = ObjectsToRead TooLong
  Objects s disabled TooManyFields = ObjectsToRead TooManyFields
  Objects s disabled TooDeep = ObjectsToRead TooDeep
  Objects s disabled (Refused e) = (length text ≤ b.bytes) × StandsFor (IsRefusal s disabled) (view_request_error e)

-- the texts that are shown
abbrev pub objection_text : Objection → Text
objection_text TooLong = codes "The text is too long"
objection_text TooManyFields = codes "An operation selects too many fields"
objection_text TooDeep = codes "An operation nests too deep"
objection_text (Refused e) = request_error_text (view_request_error e)
