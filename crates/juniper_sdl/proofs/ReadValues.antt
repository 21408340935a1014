-- Texts, constants and types are read as such.
use Rattle.std.proofs.Common.{◌≡◌, ◌≢◌, ℕ, ℤ, Bool, true, false, not, ◌&&◌, ◌||◌, List, [], ◌∷◌, ◌++◌, refl, ap, sym, ◌∙◌}
use Rattle.std.proofs.lemmas.Bool.{and_parts, both_ways, false≢true, not-true, or_parts}
use Rattle.std.specs.List.{flat_map}
use Rattle.std.specs.Fmt.{signed_decimal}
use Rattle.std.specs.Str.{bytes_eq}
use Rattle.graphql_spec.specs.Display.{written_byte, quoted, shown_text_of, display, display_items, more_items, display_fields, more_fields}
use Rattle.graphql_spec.specs.Grammar.{IsEnumName, boolean_word, false_word, null_word, true_word}
use Rattle.graphql_spec.specs.Inputs.{Input, null, scalar, enumerated, variable, list, object, InputItems, no_items, item, InputFields, no_fields, input_field}
use Rattle.graphql_spec.specs.Shown.{Name, Text, int, text, boolean}
use Rattle.graphql_spec.specs.Tokens as token
use Rattle.graphql_spec.specs.Tokens.{IsToken, continues_int, continues_name, ends_before, fits_int, is_blank, is_mark, is_name, is_nil, is_quote, mark_text}
use Rattle.graphql_spec.specs.Tokens.{starts_name}
use Rattle.graphql_spec.specs.Types.{TypeRef, named, list_of, innermost, type_text, with_mark}
use Rattle.graphql_spec.specs.WellFormed.{is_enum_name}
use Rattle.graphql_spec.proofs.DisplayedWords.{int_read, int_written, string_read}
use Rattle.graphql_spec.proofs.Lists.{same_refl}
use Rattle.juniper_sdl.specs.Faults.{are_constants, have_constants, is_constant}
use Rattle.juniper_sdl.specs.Grammar.{AreFields, AreItems, EnumWord, IsConstant, IsInt, IsString, IsType, Mark, Part, Word, ◌then◌}
use Rattle.juniper_sdl.proofs.Reading.{Follows, Reads, Stops, always, as_part, before, blank, both, follows, follows_nothing, mark, nothing}
use Rattle.juniper_sdl.proofs.Reading.{one_token, stops, word}

-- ## Texts and words

or_second : (p q : Bool) → q ≡ true → (p || q) ≡ true
or_second true q e = refl
or_second false q e = e

string_token : (t : Text) (rest : List ℕ) → Stops rest → IsToken (token.string (flat_map written_byte t)) (quoted t) rest
unfolding quoted
string_token t rest stop = (refl, rw (string_read t) refl, or_second (not (is_nil (flat_map written_byte t))) (ends_before is_quote rest) stop.string)

pub string_reads : (t : Text) → Reads (IsString t) (quoted t)
string_reads t =
    as_part (λ s u same. (flat_map written_byte t, same, string_read t))
    (one_token (token.string (flat_map written_byte t)) (quoted t) (λ rest stop. string_token t rest stop))

int_reads : (z : ℤ) → fits_int z ≡ true → Reads (IsInt z) (signed_decimal z)
int_reads z fits =
    as_part (λ s u same. (signed_decimal z, same, int_read z fits))
    (one_token (token.int (signed_decimal z)) (signed_decimal z) (λ rest stop. (refl, (int_written z fits).0, stop.int)))

differs : (w v : Name) → bytes_eq w v ≡ false → w ≢ v
differs w v apart same = both_ways (bytes_eq w v) apart (ap (λ z. bytes_eq w z) (sym same) ∙ same_refl w)

no_other_word : (w : Name) → (bytes_eq w true_word || (bytes_eq w false_word || bytes_eq w null_word)) ≡ false → IsEnumName w
no_other_word w e =
    let first = or_parts (bytes_eq w true_word) (bytes_eq w false_word || bytes_eq w null_word) e in
    let second = or_parts (bytes_eq w false_word) (bytes_eq w null_word) first.1 in
    record { not_true = differs w true_word first.0; not_false = differs w false_word second.0; not_null = differs w null_word second.1 }

pub enum_reads : (w : Name) → is_enum_name w ≡ true → Reads (EnumWord w) w
unfolding is_enum_name
enum_reads w e =
    let parts = and_parts (is_name w) (not (bytes_eq w true_word || (bytes_eq w false_word || bytes_eq w null_word))) e in
    as_part (λ s u same. (same, no_other_word w (not-true _ parts.1))) (word w parts.0)

-- ## Constants

null_reads : Reads (Word null_word) null_word
unfolding is_name starts_name continues_name
null_reads = word null_word refl

true_reads : Reads (Word true_word) true_word
unfolding is_name starts_name continues_name
true_reads = word true_word refl

false_reads : Reads (Word false_word) false_word
unfolding is_name starts_name continues_name
false_reads = word false_word refl

follow_items : (is : InputItems) → Follows (more_items is)
unfolding more_items stops continues_name starts_name continues_int is_quote
follow_items no_items = follows_nothing
follow_items (item v place is) = follows 44 refl

follow_fields : (fs : InputFields) → Follows (more_fields fs)
unfolding more_fields stops continues_name starts_name continues_int is_quote
follow_fields no_fields = follows_nothing
follow_fields (input_field k k_at v v_at fs) = follows 44 refl

item_reads : (v : Input) (is : InputItems) → Reads (IsConstant v) (display v) → Reads (AreItems is) (more_items is) →
    Reads (IsConstant v then AreItems is) (display v ++ more_items is)
item_reads v is first others = both first others (follow_items is)

field_reads : (k : Name) (v : Input) (fs : InputFields) → is_name k ≡ true → Reads (IsConstant v) (display v) → Reads (AreFields fs) (more_fields fs) →
    Reads (Word k then Mark 58 then IsConstant v then AreFields fs) (k ++ (58 ∷ 32 ∷ (display v ++ more_fields fs)))
unfolding stops continues_name starts_name continues_int is_quote is_mark mark_text is_blank
field_reads k v fs is first others =
    both (word k is) (before (mark 58 refl refl) (blank 32 refl (both first others (follow_fields fs)))) (follows 58 refl)

list_reads : (is : InputItems) → Reads (AreItems is) (display_items is) → Reads (Mark 91 then AreItems is then Mark 93) (91 ∷ (display_items is ++ 93 ∷ []))
unfolding stops continues_name starts_name continues_int is_quote is_mark mark_text is_blank
list_reads is inside = before (mark 91 refl refl) (both inside (always (mark 93 refl refl)) (follows 93 refl))

object_reads : (fs : InputFields) → Reads (AreFields fs) (display_fields fs) →
    Reads (Mark 123 then AreFields fs then Mark 125) (123 ∷ (display_fields fs ++ 125 ∷ []))
unfolding stops continues_name starts_name continues_int is_quote is_mark mark_text is_blank
object_reads fs inside = before (mark 123 refl refl) (both inside (always (mark 125 refl refl)) (follows 125 refl))

-- ", " before what is read
after_comma : {P : Part} {bytes : List ℕ} → Reads P bytes → Reads P (44 ∷ 32 ∷ bytes)
unfolding is_blank
after_comma reads = blank 44 refl (blank 32 refl reads)

mutual
  unfolding display shown_text_of is_constant boolean_word

  pub constant_reads : (v : Input) → is_constant v ≡ true → Reads (IsConstant v) (display v)
  constant_reads null fit = null_reads
  constant_reads (scalar (int z)) fit = int_reads z fit
  constant_reads (scalar (text t)) fit = string_reads t
  constant_reads (scalar (boolean true)) fit = true_reads
  constant_reads (scalar (boolean false)) fit = false_reads
  constant_reads (enumerated w) fit = enum_reads w fit
  constant_reads (variable x) fit = absurd (false≢true fit)
  constant_reads (list is) fit = list_reads is (items_read is fit)
  constant_reads (object fs) fit = object_reads fs (fields_read fs fit)

  items_read : (is : InputItems) → are_constants is ≡ true → Reads (AreItems is) (display_items is)
  items_read no_items fit = always nothing
  items_read (item v place is) fit =
      let p = and_parts (is_constant v) (are_constants is) fit in
      item_reads v is (constant_reads v p.0) (more_items_read is p.1)

  more_items_read : (is : InputItems) → are_constants is ≡ true → Reads (AreItems is) (more_items is)
  more_items_read no_items fit = always nothing
  more_items_read (item v place is) fit =
      let p = and_parts (is_constant v) (are_constants is) fit in
      after_comma (item_reads v is (constant_reads v p.0) (more_items_read is p.1))

  fields_read : (fs : InputFields) → have_constants fs ≡ true → Reads (AreFields fs) (display_fields fs)
  fields_read no_fields fit = always nothing
  fields_read (input_field k k_at v v_at fs) fit =
      let p = and_parts (is_name k) (is_constant v && have_constants fs) fit in
      let q = and_parts (is_constant v) (have_constants fs) p.1 in
      field_reads k v fs p.0 (constant_reads v q.0) (more_fields_read fs q.1)

  more_fields_read : (fs : InputFields) → have_constants fs ≡ true → Reads (AreFields fs) (more_fields fs)
  more_fields_read no_fields fit = always nothing
  more_fields_read (input_field k k_at v v_at fs) fit =
      let p = and_parts (is_name k) (is_constant v && have_constants fs) fit in
      let q = and_parts (is_constant v) (have_constants fs) p.1 in
      after_comma (field_reads k v fs p.0 (constant_reads v q.0) (more_fields_read fs q.1))

-- ## Types

pub type_reads : (t : TypeRef) → is_name (innermost t) ≡ true → Reads (IsType t) (type_text t)
unfolding type_text with_mark innermost stops continues_name starts_name continues_int is_quote is_mark mark_text
type_reads (named true n) is = both (word n is) (always (mark 33 refl refl)) (follows 33 refl)
type_reads (named false n) is = as_part (λ s u same. (u, same, refl)) (word n is)
type_reads (list_of true size t) is =
    both (before (mark 91 refl refl) (both (type_reads t is) (always (mark 93 refl refl)) (follows 93 refl))) (always (mark 33 refl refl)) (follows 33 refl)
type_reads (list_of false size t) is =
    as_part (λ s u inside. (u, inside, refl)) (before (mark 91 refl refl) (both (type_reads t is) (always (mark 93 refl refl)) (follows 93 refl)))
