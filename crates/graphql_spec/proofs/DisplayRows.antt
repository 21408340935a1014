-- worked rows: how values are written, what holds of values that can be read again, and a constant that is spelled
use Rattle.std.specs.Prelude.{ℕ, Bool, true, false, codes, List, [], ◌∷◌, ◌≡◌, ◌≢◌, pos, negsuc}
use Rattle.std.proofs.Common.{refl, ap}
use Rattle.std.proofs.lemmas.Bool.{both_ways}
use Rattle.std.specs.Fmt.{digits}
use Rattle.graphql_spec.specs.Shown.{Name, int, text, boolean}
use Rattle.graphql_spec.specs.Positions.{Span, beginning, next_line, continues_character, past_byte, walk}
use Rattle.graphql_spec.specs.Tokens.{Token, mark, name, IsText, starts_name, continues_name, is_name, ends_before, fits_int, is_mark, mark_text, is_nil}
use Rattle.graphql_spec.specs.Tokens.{is_blank, is_line_end, is_source_byte, ignore_byte, is_ignored}
use Rattle.graphql_spec.specs.Inputs.{Input, null, scalar, enumerated, variable, list, object, no_items, item, no_fields, input_field}
use Rattle.graphql_spec.specs.Grammar.{At, IsValue, begin_of, span_of, most_brackets}
use Rattle.graphql_spec.specs.WellFormed.{is_enum_name, is_named, nests, ints_fit}
use Rattle.graphql_spec.specs.Unplaced.{unplaced, nowhere, SpellsConstant}
use Rattle.graphql_spec.specs.Display.{hex_digit, written_byte, quoted, shown_text_of, display}
use Rattle.graphql_spec.proofs.Demo.{at, span}

-- a list of one value, and an object of one field, that stand there
abbrev only : Input → Span → Input
only v place = list (item v place no_items)

abbrev field_of : Name → Input → Span → Input
field_of k v place = object (input_field k place v place no_fields)

-- {k: RED, l: ["a", LF and a quote]}
abbrev some_object : Input
some_object = object (input_field (codes "k") (span 1 2) (enumerated (codes "RED")) (span 4 7)
    (input_field (codes "l") (span 9 10) (only (scalar (text (97 ∷ 10 ∷ 34 ∷ []))) (span 13 20)) (span 12 21) no_fields))

displayed : (display some_object ≡ codes "{k: RED, l: [\"a\\n\\\"\"]}") × (display (list no_items) ≡ codes "[]")
    × (display (list (item null (span 0 1) (item (scalar (boolean true)) (span 0 1) no_items))) ≡ codes "[null, true]")
    × (display (scalar (int (negsuc 4))) ≡ codes "-5") × (display (scalar (text (31 ∷ 127 ∷ []))) ≡ 34 ∷ 92 ∷ 117 ∷ 48 ∷ 48 ∷ 49 ∷ 70 ∷ 127 ∷ 34 ∷ [])
unfolding display shown_text_of quoted written_byte hex_digit digits
displayed = (refl, refl, refl, refl, refl)

-- names: `true`, `false` and `null` are no enum values, but keys
named : (is_named some_object ≡ true) × (is_named (enumerated (codes "true")) ≡ false) × (is_named (enumerated (codes "false")) ≡ false)
    × (is_named (enumerated (codes "null")) ≡ false)
    × (is_named (enumerated (codes "nulls")) ≡ true) × (is_named (enumerated []) ≡ false) × (is_named (only (enumerated (codes "1a")) (span 0 1)) ≡ false)
    × (is_named (field_of (codes "null") null (span 0 1)) ≡ true)
    × (is_named (field_of (codes "a b") null (span 0 1)) ≡ false) × (is_named (field_of (codes "a") (enumerated (codes "-")) (span 0 1)) ≡ false)
    × (is_named (variable (codes "$")) ≡ false)
unfolding is_named is_enum_name is_name starts_name continues_name
named = (refl, refl, refl, refl, refl, refl, refl, refl, refl, refl, refl)

-- brackets: an object with a list inside has two open
nested : (nests 2 some_object ≡ true) × (nests 1 some_object ≡ false) × (nests most_brackets some_object ≡ true) × (nests 0 null ≡ true)
    × (nests 0 (list no_items) ≡ false)
    × (nests 0 (object no_fields) ≡ false)
    × (nests 1 (list (item (list no_items) (span 0 1) no_items)) ≡ false)
unfolding nests
nested = (refl, refl, refl, refl, refl, refl, refl)

-- Ints of 32 bits, wherever they stand
fit : (ints_fit some_object ≡ true) × (ints_fit (only (scalar (int (pos 2147483647))) (span 0 1)) ≡ true)
    × (ints_fit (only (scalar (int (pos 2147483648))) (span 0 1)) ≡ false)
    × (ints_fit (field_of (codes "k") (scalar (int (negsuc 2147483647))) (span 0 1)) ≡ true)
    × (ints_fit (field_of (codes "k") (scalar (int (negsuc 2147483648))) (span 0 1)) ≡ false)
    × (ints_fit (list (item null (span 0 1) (item (scalar (int (pos 2147483648))) (span 0 1) no_items))) ≡ false)
unfolding ints_fit fits_int
fit = (refl, refl, refl, refl, refl, refl)

-- the object with one place for all
same_object : Input
same_object = object (input_field (codes "k") nowhere (enumerated (codes "RED")) nowhere
    (input_field (codes "l") nowhere (only (scalar (text (97 ∷ 10 ∷ 34 ∷ []))) nowhere) nowhere no_fields))

-- null, a variable and an empty list
some_list : Span → Span → Span → Input
some_list a b c = list (item null a (item (variable (codes "x")) b (item (list no_items) c no_items)))

-- all else is as it was
without_places : (unplaced some_object ≡ same_object) × (unplaced (some_list (span 1 5) (span 6 8) (span 8 10)) ≡ some_list nowhere nowhere nowhere)
    × (unplaced (only (scalar (int (pos 1))) (span 1 2)) ≡ unplaced (only (scalar (int (pos 1))) (span 3 4)))
unfolding unplaced same_object some_list
without_places = (refl, refl, refl)

-- what stands there counts
is_null_there : Input → Bool
is_null_there (list (item null place rest)) = true
is_null_there (object (input_field k k_at null v_at rest)) = true
is_null_there v = false

others_stay : (unplaced (only null (span 1 5)) ≢ unplaced (only (enumerated (codes "null")) (span 1 5)))
    × (unplaced (field_of (codes "k") null (span 1 5)) ≢ unplaced (field_of (codes "k") (list no_items) (span 1 5)))
unfolding unplaced is_null_there
others_stay = (λ e. both_ways true (ap is_null_there e) refl, λ e. both_ways true (ap is_null_there e) refl)

-- ## `{k: [RED]}`, token by token

-- the tokens from each one on
abbrev from7 : List Token
from7 = []

abbrev from6 : List Token
from6 = record { lexeme = mark 125; span = span 9 10 } ∷ from7

abbrev from5 : List Token
from5 = record { lexeme = mark 93; span = span 8 9 } ∷ from6

abbrev from4 : List Token
from4 = record { lexeme = name (codes "RED"); span = span 5 8 } ∷ from5

abbrev from3 : List Token
from3 = record { lexeme = mark 91; span = span 4 5 } ∷ from4

abbrev from2 : List Token
from2 = record { lexeme = mark 58; span = span 2 3 } ∷ from3

abbrev from1 : List Token
from1 = record { lexeme = name (codes "k"); span = span 1 2 } ∷ from2

abbrev from0 : List Token
from0 = record { lexeme = mark 123; span = span 0 1 } ∷ from1

-- where a reader stands that took the tokens before
abbrev standing : ℕ → List Token → At
standing n ts = record { last = at n; ahead = ts }

text_from5 : IsText (record { position = at 8; after_return = false }) from5 (codes "]}")
unfolding starts_name continues_name is_name ends_before is_mark mark_text is_nil is_blank is_line_end is_source_byte ignore_byte is_ignored next_line
    continues_character past_byte walk
text_from5 = ([], codes "]", codes "}", refl, refl, (refl, refl), refl, refl, ([], codes "}", [], refl, refl, (refl, refl), refl, refl, refl))

text_from4 : IsText (record { position = at 5; after_return = false }) from4 (codes "RED]}")
unfolding starts_name continues_name is_name ends_before is_mark mark_text is_nil is_blank is_line_end is_source_byte ignore_byte is_ignored next_line
    continues_character past_byte walk
text_from4 = ([], codes "RED", codes "]}", refl, refl, (refl, refl, refl), refl, refl, text_from5)

text_from2 : IsText (record { position = at 2; after_return = false }) from2 (codes ": [RED]}")
unfolding starts_name continues_name is_name ends_before is_mark mark_text is_nil is_blank is_line_end is_source_byte ignore_byte is_ignored next_line
    continues_character past_byte walk
text_from2 = (
  [],
  codes ":",
  codes " [RED]}",
  refl,
  refl,
  (refl, refl),
  refl,
  refl,
  (codes " ", codes "[", codes "RED]}", refl, refl, (refl, refl), refl, refl, text_from4),
)

is_text : IsText beginning from0 (codes "{k: [RED]}")
unfolding starts_name continues_name is_name ends_before is_mark mark_text is_nil is_blank is_line_end is_source_byte ignore_byte is_ignored next_line
    continues_character past_byte walk
is_text = (
  [],
  codes "{",
  codes "k: [RED]}",
  refl,
  refl,
  (refl, refl),
  refl,
  refl,
  ([], codes "k", codes ": [RED]}", refl, refl, (refl, refl, refl), refl, refl, text_from2),
)

abbrev inner : Input
inner = list (item (enumerated (codes "RED")) (span 5 8) no_items)

abbrev outer : Input
outer = object (input_field (codes "k") (span 1 2) inner (span 4 9) no_fields)

-- below one bracket of the 256
is_inner : IsValue true inner 255 (standing 3 from3) (standing 9 from6)
unfolding begin_of span_of
is_inner = (
  standing 5 from4,
  standing 8 from5,
  (span 4 5, record { token = refl; last = refl }),
  (standing 8 from5, ((span 5 8, record { token = refl; last = refl }), record { not_true = λ e. cc; not_false = λ e. cc; not_null = λ e. cc }), refl, refl),
  (span 8 9, record { token = refl; last = refl }),
)

is_outer : IsValue true outer 256 (standing 0 from0) (standing 10 from7)
unfolding begin_of span_of
is_outer = (
  standing 1 from1,
  standing 9 from6,
  (span 0 1, record { token = refl; last = refl }),
  (
    standing 2 from2,
    standing 3 from3,
    standing 9 from6,
    record { token = refl; last = refl },
    (span 2 3, record { token = refl; last = refl }),
    is_inner,
    refl,
    refl,
  ),
  (span 9 10, record { token = refl; last = refl }),
)

spelled : SpellsConstant (codes "{k: [RED]}") outer
spelled = (from0, standing 10 from7, is_text, is_outer, refl)

-- no text spells a variable as a constant
not_constant : (bytes : List ℕ) (x : Name) → SpellsConstant bytes (variable x) → ⊥
not_constant bytes x (ts, t, is, (const, a, dollar, called), done) = both_ways true const refl
