-- How a constant is written is a spelling of it, by its kind.
use Rattle.std.proofs.Common.{◌≡◌, ◌≢◌, ℕ, zero, suc, Bool, true, false, not, ◌&&◌, ◌||◌, ℤ, List, [], ◌∷◌, ◌++◌, Some, None, refl, ap, sym, ◌∙◌, subst}
use Rattle.std.proofs.lemmas.Bool.{and_parts, or_parts, not-true, both_ways, false≢true}
use Rattle.std.proofs.lemmas.List.{append_assoc, append-nil}
use Rattle.std.specs.Str.{bytes_eq}
use Rattle.std.specs.List.{flat_map}
use Rattle.std.specs.Fmt.{signed_decimal}
use Rattle.graphql_spec.specs.Shown.{Text, Name, int, text, boolean}
use Rattle.graphql_spec.specs.Positions.{Position, Span, Spot, origin, beginning, past_byte, walk}
use Rattle.graphql_spec.specs.Tokens as token
use Rattle.graphql_spec.specs.Tokens.{Lexeme, Token, IsToken, IsText, starts_name, continues_name, is_name, ends_before, continues_int, decoded_string}
use Rattle.graphql_spec.specs.Tokens.{fits_int, is_mark, mark_text, is_quote, is_nil, is_blank, ignore_byte, is_ignored, between}
use Rattle.graphql_spec.specs.Grammar.{At, Takes, IsValue, AreItems, AreFields, IsEnumName, span_of, true_word, false_word, null_word, boolean_word}
use Rattle.graphql_spec.specs.Grammar.{most_brackets}
use Rattle.graphql_spec.specs.Inputs.{Input, null, scalar, enumerated, variable, list, object, InputItems, no_items, item, InputFields, no_fields, input_field}
use Rattle.graphql_spec.specs.Inputs.{is_const, items_are_const, fields_are_const}
use Rattle.graphql_spec.specs.WellFormed.{is_enum_name, is_named, items_are_named, fields_are_named, nests, items_nest, fields_nest, ints_fit, ints_fit_items}
use Rattle.graphql_spec.specs.WellFormed.{ints_fit_fields}
use Rattle.graphql_spec.specs.Unplaced.{unplaced, unplaced_items, unplaced_fields, nowhere}
use Rattle.graphql_spec.specs.Display.{written_byte, quoted, shown_text_of, display, display_items, more_items, display_fields, more_fields}
use Rattle.graphql_spec.specs.Laws.{DisplaysAreSpelled}
use Rattle.graphql_spec.proofs.Lists.{same_refl}
use Rattle.graphql_spec.proofs.DisplayedWords.{string_read, int_written, int_read}

-- ## Texts, word by word

-- what stands behind a value ends it, of whatever kind it is
record Stops (rest : List ℕ) : Type 0 where
  name : ends_before continues_name rest ≡ true
  int : ends_before continues_int rest ≡ true
  string : ends_before is_quote rest ≡ true

walk_both : (front back : List ℕ) (at : Spot) → walk at (front ++ back) ≡ walk (walk at front) back
unfolding walk
walk_both [] back at = refl
walk_both (b ∷ front) back at = walk_both front back (past_byte at b)

-- what is read behind two texts is read behind the second, from the end of the first
behind_both : (front back : List ℕ) (at : Spot) (more : List Token) (rest : List ℕ) →
    IsText (walk at (front ++ back)) more rest → IsText (walk (walk at front) back) more rest
behind_both front back at more rest is = subst (λ s. IsText s more rest) (walk_both front back at) is

-- two texts before a third
both_before : (front back rest : List ℕ) (at : Spot) (ts : List Token) → IsText at ts (front ++ (back ++ rest)) → IsText at ts ((front ++ back) ++ rest)
both_before front back rest at ts is = subst (λ bytes. IsText at ts bytes) (sym (append_assoc front back rest)) is

-- the token that a word at a place is
abbrev token_at : Spot → Lexeme → List ℕ → Token
token_at at l word = record { lexeme = l; span = record { start = at.position; end = (walk at word).position } }

word_before : (at : Spot) (l : Lexeme) (word rest : List ℕ) (more : List Token) → IsToken l word rest → IsText (walk at word) more rest →
    IsText at (token_at at l word ∷ more) (word ++ rest)
unfolding walk is_ignored
word_before at l word rest more is next = ([], word, rest, refl, refl, is, refl, refl, next)

blank_step : (b : ℕ) → is_blank b ≡ true → ignore_byte between b ≡ Some between
unfolding ignore_byte
blank_step b blank = rw blank refl

blank_ignored : (b : ℕ) (bytes rest : List ℕ) → is_blank b ≡ true → is_ignored between bytes rest ≡ true → is_ignored between (b ∷ bytes) rest ≡ true
unfolding is_ignored
blank_ignored b bytes rest blank ignored = ap (λ z. elim z as (λ x. Bool) [ None ↦ false | Some n ↦ is_ignored n bytes rest ]) (blank_step b blank) ∙ ignored

blank_before : (at : Spot) (ts : List Token) (b : ℕ) (bytes : List ℕ) → is_blank b ≡ true → IsText (past_byte at b) ts bytes → IsText at ts (b ∷ bytes)
unfolding walk
blank_before at [] b bytes blank is = blank_ignored b bytes [] blank is
blank_before at (t ∷ ts) b bytes blank (gap, word, rest, same, ignored, is, start, end, next) =
    (b ∷ gap, word, rest, ap (λ z. b ∷ z) same, blank_ignored b gap (word ++ rest) blank ignored, is, start, end, next)

-- ## Values as they are read

-- where a reader stands that took the tokens before
abbrev standing : Position → List Token → At
standing last ts = record { last = last; ahead = ts }

-- from there the tokens are derived as the value but for places, up to the others
abbrev IsDerivedAs : ℕ → Input → List Token → List Token → Type 0
IsDerivedAs n v ts more = (last : Position) → (u : Input) × (to : Position) × (unplaced u ≡ unplaced v) × IsValue true u n (standing last ts) (standing to more)

abbrev AreItemsOf : ℕ → InputItems → List Token → List Token → Type 0
AreItemsOf n is ts more =
    (last : Position) → (us : InputItems) × (to : Position) × (unplaced_items us ≡ unplaced_items is) × AreItems true us n (standing last ts) (standing to more)

abbrev AreFieldsOf : ℕ → InputFields → List Token → List Token → Type 0
AreFieldsOf n fs ts more = (last : Position) → (us : InputFields) × (to : Position) × (unplaced_fields us ≡ unplaced_fields fs)
    × AreFields true us n (standing last ts) (standing to more)

-- before each rest of a text that ends a value, a text is tokens of which this holds
abbrev Reads : (List Token → List Token → Type 0) → List ℕ → Type 0
Reads R bytes = (at : Spot) (rest : List ℕ) (more : List Token) → Stops rest → IsText (walk at bytes) more rest →
    (ts : List Token) × IsText at ts (bytes ++ rest) × R ts more

-- one token
one_token : (n : ℕ) (v : Input) (l : Lexeme) (word : List ℕ) → ((rest : List ℕ) → Stops rest → IsToken l word rest)
    → ((s t : At) (place : Span) → Takes l place s t → IsValue true v n s t) → Reads (IsDerivedAs n v) word
one_token n v l word is derived at rest more stops next = (
  token_at at l word ∷ more,
  word_before at l word rest more (is rest stops) next,
  λ last.
      (v, (walk at word).position, refl, derived _ _ (token_at at l word).span (record { token = refl; last = refl })),
)

-- ## Scalars and enum values

word_token : (w rest : List ℕ) → is_name w ≡ true → Stops rest → IsToken (token.name w) w rest
word_token w rest named stops = (refl, named, stops.name)

keyword : (n : ℕ) (v : Input) (w : Text) → is_name w ≡ true → ((s t : At) (place : Span) → Takes (token.name w) place s t → IsValue true v n s t) →
    Reads (IsDerivedAs n v) w
keyword n v w named derived = one_token n v (token.name w) w (λ rest stops. word_token w rest named stops) derived

null_reads : (n : ℕ) → Reads (IsDerivedAs n null) null_word
unfolding is_name starts_name continues_name
null_reads n = keyword n null null_word refl (λ s t place takes. (place, takes))

true_reads : (n : ℕ) → Reads (IsDerivedAs n (scalar (boolean true))) true_word
unfolding is_name starts_name continues_name boolean_word
true_reads n = keyword n (scalar (boolean true)) true_word refl (λ s t place takes. (place, takes))

false_reads : (n : ℕ) → Reads (IsDerivedAs n (scalar (boolean false))) false_word
unfolding is_name starts_name continues_name boolean_word
false_reads n = keyword n (scalar (boolean false)) false_word refl (λ s t place takes. (place, takes))

differs : (w v : Name) → bytes_eq w v ≡ false → w ≢ v
differs w v apart same = both_ways (bytes_eq w v) apart (ap (λ z. bytes_eq w z) (sym same) ∙ same_refl w)

no_other_word : (w : Name) → (bytes_eq w true_word || (bytes_eq w false_word || bytes_eq w null_word)) ≡ false → IsEnumName w
no_other_word w e =
    let first = or_parts (bytes_eq w true_word) (bytes_eq w false_word || bytes_eq w null_word) e in
    let second = or_parts (bytes_eq w false_word) (bytes_eq w null_word) first.1 in
    record { not_true = differs w true_word first.0; not_false = differs w false_word second.0; not_null = differs w null_word second.1 }

enum_reads : (n : ℕ) (w : Name) → is_enum_name w ≡ true → Reads (IsDerivedAs n (enumerated w)) w
unfolding is_enum_name
enum_reads n w e =
    let parts = and_parts (is_name w) (not (bytes_eq w true_word || (bytes_eq w false_word || bytes_eq w null_word))) e in
    let word = no_other_word w (not-true _ parts.1) in
    keyword n (enumerated w) w parts.0 (λ s t place takes. ((place, takes), word))

int_reads : (n : ℕ) (z : ℤ) → fits_int z ≡ true → Reads (IsDerivedAs n (scalar (int z))) (signed_decimal z)
int_reads n z fits =
    one_token n (scalar (int z)) (token.int (signed_decimal z)) (signed_decimal z) (λ rest stops. (refl, (int_written z fits).0, stops.int))
    (λ s t place takes. (signed_decimal z, place, takes, int_read z fits))

or_second : (p q : Bool) → q ≡ true → (p || q) ≡ true
or_second true q e = refl
or_second false q e = e

-- a String's token, from what stands between its quotes
string_token : (t : Text) (rest : List ℕ) → Stops rest → IsToken (token.string (flat_map written_byte t)) (quoted t) rest
unfolding quoted
string_token t rest stops = (refl, rw (string_read t) refl, or_second (not (is_nil (flat_map written_byte t))) (ends_before is_quote rest) stops.string)

string_reads : (n : ℕ) (t : Text) → Reads (IsDerivedAs n (scalar (text t))) (quoted t)
string_reads n t =
    one_token n (scalar (text t)) (token.string (flat_map written_byte t)) (quoted t) (λ rest stops. string_token t rest stops)
    (λ s to place takes. (flat_map written_byte t, place, takes, string_read t))

-- ## Lists and objects

stops_comma : (bytes : List ℕ) → Stops (44 ∷ bytes)
unfolding ends_before continues_int continues_name starts_name is_quote
stops_comma bytes = record { name = refl; int = refl; string = refl }

stops_bracket : (bytes : List ℕ) → Stops (93 ∷ bytes)
unfolding ends_before continues_int continues_name starts_name is_quote
stops_bracket bytes = record { name = refl; int = refl; string = refl }

stops_brace : (bytes : List ℕ) → Stops (125 ∷ bytes)
unfolding ends_before continues_int continues_name starts_name is_quote
stops_brace bytes = record { name = refl; int = refl; string = refl }

stops_end : Stops []
unfolding ends_before
stops_end = record { name = refl; int = refl; string = refl }

stops_items : (is : InputItems) (rest : List ℕ) → Stops rest → Stops (more_items is ++ rest)
unfolding more_items
stops_items no_items rest stops = stops
stops_items (item v place is) rest stops = stops_comma _

stops_fields : (fs : InputFields) (rest : List ℕ) → Stops rest → Stops (more_fields fs ++ rest)
unfolding more_fields
stops_fields no_fields rest stops = stops
stops_fields (input_field k k_at v v_at fs) rest stops = stops_comma _

-- ", " before what is read
after_comma : (R : List Token → List Token → Type 0) (bytes : List ℕ) → Reads R bytes → Reads R (44 ∷ 32 ∷ bytes)
unfolding walk is_blank
after_comma R bytes reads at rest more stops next =
    let r = reads (past_byte (past_byte at 44) 32) rest more stops next in
    (r.0, blank_before at r.0 44 (32 ∷ (bytes ++ rest)) refl (blank_before (past_byte at 44) r.0 32 (bytes ++ rest) refl r.1), r.2)

no_items_read : (n : ℕ) → Reads (AreItemsOf n no_items) []
unfolding walk
no_items_read n at rest more stops next = (more, next, λ last. (no_items, last, refl, refl))

no_fields_read : (n : ℕ) → Reads (AreFieldsOf n no_fields) []
unfolding walk
no_fields_read n at rest more stops next = (more, next, λ last. (no_fields, last, refl, refl))

-- an item and those behind it
item_reads : (n : ℕ) (v : Input) (place : Span) (is : InputItems) → Reads (IsDerivedAs n v) (display v) → Reads (AreItemsOf n is) (more_items is)
    → Reads (AreItemsOf n (item v place is)) (display v ++ more_items is)
unfolding unplaced
item_reads n v place is first others at rest more stops next =
    let later = others (walk at (display v)) rest more stops (behind_both (display v) (more_items is) at more rest next) in
    let value = first at (more_items is ++ rest) later.0 (stops_items is rest stops) later.1 in (
      value.0,
      both_before (display v) (more_items is) rest at value.0 value.1,
      λ last.
          let u = value.2 last in
          let us = later.2 u.1 in (
            item u.0 (span_of (standing last value.0) (standing u.1 later.0)) us.0,
            us.1,
            λ i. item (u.2 i) nowhere (us.2 i),
            (standing u.1 later.0, u.3, refl, us.3),
          ),
    )

-- a field and those behind it
field_reads : (n : ℕ) (k : Name) (k_at : Span) (v : Input) (v_at : Span) (fs : InputFields) → is_name k ≡ true → Reads (IsDerivedAs n v) (display v) →
    Reads (AreFieldsOf n fs) (more_fields fs)
    → Reads (AreFieldsOf n (input_field k k_at v v_at fs)) (k ++ (58 ∷ 32 ∷ (display v ++ more_fields fs)))
unfolding unplaced walk ends_before continues_name starts_name is_mark mark_text is_blank
field_reads n k k_at v v_at fs named first others at rest more stops next =
    let colon : Spot = walk at k in
    let here : Spot = past_byte (past_byte colon 58) 32 in
    let both : List ℕ = display v ++ more_fields fs in
    let later = others (walk here (display v)) rest more stops (behind_both (display v) (more_fields fs) here more rest
    (behind_both k (58 ∷ 32 ∷ both) at more rest next)) in
    let value = first here (more_fields fs ++ rest) later.0 (stops_fields fs rest stops) later.1 in
    let from_value : IsText here value.0 (both ++ rest) = both_before (display v) (more_fields fs) rest here value.0 value.1 in
    let behind_name : List Token = token_at colon (token.mark 58) (58 ∷ []) ∷ value.0 in
    let from_blank : IsText (past_byte colon 58) value.0 (32 ∷ (both ++ rest)) = blank_before (past_byte colon 58) value.0 32 (both ++ rest) refl from_value in
    let from_colon = word_before colon (token.mark 58) (58 ∷ []) (32 ∷ (both ++ rest)) value.0 (refl, refl) from_blank in
    let from_name = word_before at (token.name k) k (58 ∷ 32 ∷ (both ++ rest)) behind_name (refl, named, refl) from_colon in (
      token_at at (token.name k) k ∷ behind_name,
      both_before k (58 ∷ 32 ∷ both) rest at (token_at at (token.name k) k ∷ behind_name) from_name,
      λ last.
          let behind_colon : Position = (past_byte colon 58).position in
          let u = value.2 behind_colon in
          let us = later.2 u.1 in (
            input_field k (token_at at (token.name k) k).span u.0 (span_of (standing behind_colon value.0) (standing u.1 later.0)) us.0,
            us.1,
            λ i. input_field k nowhere (u.2 i) nowhere (us.2 i),
            (
              standing colon.position behind_name,
              standing behind_colon value.0,
              standing u.1 later.0,
              record { token = refl; last = refl },
              ((token_at colon (token.mark 58) (58 ∷ [])).span, record { token = refl; last = refl }),
              u.3,
              refl,
              us.3,
            ),
          ),
    )

-- a punctuator, at a place
abbrev mark_at : ℕ → Span → Token
mark_at m place = record { lexeme = token.mark m; span = place }

-- what stands in brackets, and the brackets
bracketed : (opens closes : ℕ) (R S : List Token → List Token → Type 0) (body : List ℕ) → ((rest : List ℕ) → IsToken (token.mark opens) (opens ∷ []) rest)
    → ((rest : List ℕ) → IsToken (token.mark closes) (closes ∷ []) rest) → ((rest : List ℕ) → Stops (closes ∷ rest))
    → ((ts more : List Token) (o c : Span) → R ts (mark_at closes c ∷ more) → S (mark_at opens o ∷ ts) more) → Reads R body →
    Reads S (opens ∷ (body ++ closes ∷ []))
unfolding walk
bracketed opens closes R S body is_open is_close stop whole inside at rest more stops next =
    let begin : Spot = past_byte at opens in
    let ending = word_before (walk begin body) (token.mark closes) (closes ∷ []) rest more (is_close rest)
    (behind_both body (closes ∷ []) begin more rest next) in
    let r = inside begin (closes ∷ rest) (token_at (walk begin body) (token.mark closes) (closes ∷ []) ∷ more) (stop rest) ending in (
      token_at at (token.mark opens) (opens ∷ []) ∷ r.0,
      word_before at (token.mark opens) (opens ∷ []) ((body ++ closes ∷ []) ++ rest) r.0 (is_open ((body ++ closes ∷ []) ++ rest))
          (both_before body (closes ∷ []) rest begin r.0 r.1),
      whole r.0 more _ _ r.2,
    )

list_reads : (n : ℕ) (is : InputItems) → Reads (AreItemsOf n is) (display_items is) → Reads (IsDerivedAs (suc n) (list is)) (91 ∷ (display_items is ++ 93 ∷ []))
unfolding unplaced is_mark mark_text
list_reads n is inside =
    bracketed 91 93 (AreItemsOf n is) (IsDerivedAs (suc n) (list is)) (display_items is) (λ rest. (refl, refl)) (λ rest. (refl, refl)) stops_bracket
    (λ ts more o c derived last. let r = derived o.end in (
      list r.0,
      c.end,
      ap list r.2,
      (
        standing o.end ts,
        standing r.1 (mark_at 93 c ∷ more),
        (o, record { token = refl; last = refl }),
        r.3,
        (c, record { token = refl; last = refl }),
      ),
    )) inside

object_reads : (n : ℕ) (fs : InputFields) → Reads (AreFieldsOf n fs) (display_fields fs) →
    Reads (IsDerivedAs (suc n) (object fs)) (123 ∷ (display_fields fs ++ 125 ∷ []))
unfolding unplaced is_mark mark_text
object_reads n fs inside =
    bracketed 123 125 (AreFieldsOf n fs) (IsDerivedAs (suc n) (object fs)) (display_fields fs) (λ rest. (refl, refl)) (λ rest. (refl, refl)) stops_brace
    (λ ts more o c derived last. let r = derived o.end in (
      object r.0,
      c.end,
      ap object r.2,
      (
        standing o.end ts,
        standing r.1 (mark_at 125 c ∷ more),
        (o, record { token = refl; last = refl }),
        r.3,
        (c, record { token = refl; last = refl }),
      ),
    )) inside

-- ## Every constant

-- what is asked of a value, where that many brackets may be open
abbrev IsFit : ℕ → Input → Type 0
IsFit n v = (is_const v ≡ true) × (is_named v ≡ true) × (ints_fit v ≡ true) × (nests n v ≡ true)

abbrev AreFit : ℕ → InputItems → Type 0
AreFit n is = (items_are_const is ≡ true) × (items_are_named is ≡ true) × (ints_fit_items is ≡ true) × (items_nest n is ≡ true)

abbrev AreFitFields : ℕ → InputFields → Type 0
AreFitFields n fs = (fields_are_const fs ≡ true) × (fields_are_named fs ≡ true) × (ints_fit_fields fs ≡ true) × (fields_nest n fs ≡ true)

item_parts : (n : ℕ) (v : Input) (place : Span) (is : InputItems) → AreFit n (item v place is) → IsFit n v × AreFit n is
unfolding is_const is_named ints_fit nests
item_parts n v place is (const, named, fits, deep) =
    let c = and_parts (is_const v) (items_are_const is) const in
    let m = and_parts (is_named v) (items_are_named is) named in
    let f = and_parts (ints_fit v) (ints_fit_items is) fits in
    let d = and_parts (nests n v) (items_nest n is) deep in
    ((c.0, m.0, f.0, d.0), (c.1, m.1, f.1, d.1))

field_parts : (n : ℕ) (k : Name) (k_at : Span) (v : Input) (v_at : Span) (fs : InputFields) → AreFitFields n (input_field k k_at v v_at fs) →
    (is_name k ≡ true) × IsFit n v × AreFitFields n fs
unfolding is_const is_named ints_fit nests
field_parts n k k_at v v_at fs (const, named, fits, deep) =
    let c = and_parts (is_const v) (fields_are_const fs) const in
    let w = and_parts (is_name k) (is_named v && fields_are_named fs) named in
    let m = and_parts (is_named v) (fields_are_named fs) w.1 in
    let f = and_parts (ints_fit v) (ints_fit_fields fs) fits in
    let d = and_parts (nests n v) (fields_nest n fs) deep in
    (w.0, (c.0, m.0, f.0, d.0), (c.1, m.1, f.1, d.1))

mutual
  unfolding display shown_text_of nests is_named is_const ints_fit

  value_reads : (v : Input) (n : ℕ) → IsFit n v → Reads (IsDerivedAs n v) (display v)
  value_reads null n fit = null_reads n
  value_reads (scalar (int z)) n fit = int_reads n z fit.2
  value_reads (scalar (text t)) n fit = string_reads n t
  value_reads (scalar (boolean true)) n fit = true_reads n
  value_reads (scalar (boolean false)) n fit = false_reads n
  value_reads (enumerated w) n fit = enum_reads n w fit.1
  value_reads (variable x) n fit = absurd (false≢true fit.0)
  value_reads (list is) zero fit = absurd (false≢true fit.3)
  value_reads (list is) (suc n) fit = list_reads n is (items_read is n fit)
  value_reads (object fs) zero fit = absurd (false≢true fit.3)
  value_reads (object fs) (suc n) fit = object_reads n fs (fields_read fs n fit)

  items_read : (is : InputItems) (n : ℕ) → AreFit n is → Reads (AreItemsOf n is) (display_items is)
  items_read no_items n fit = no_items_read n
  items_read (item v place is) n fit = let p = item_parts n v place is fit in item_reads n v place is (value_reads v n p.0) (more_items_read is n p.1)

  more_items_read : (is : InputItems) (n : ℕ) → AreFit n is → Reads (AreItemsOf n is) (more_items is)
  more_items_read no_items n fit = no_items_read n
  more_items_read (item v place is) n fit =
      let p = item_parts n v place is fit in
      after_comma (AreItemsOf n (item v place is)) (display v ++ more_items is) (item_reads n v place is (value_reads v n p.0) (more_items_read is n p.1))

  fields_read : (fs : InputFields) (n : ℕ) → AreFitFields n fs → Reads (AreFieldsOf n fs) (display_fields fs)
  fields_read no_fields n fit = no_fields_read n
  fields_read (input_field k k_at v v_at fs) n fit =
      let p = field_parts n k k_at v v_at fs fit in
      field_reads n k k_at v v_at fs p.0 (value_reads v n p.1) (more_fields_read fs n p.2)

  more_fields_read : (fs : InputFields) (n : ℕ) → AreFitFields n fs → Reads (AreFieldsOf n fs) (more_fields fs)
  more_fields_read no_fields n fit = no_fields_read n
  more_fields_read (input_field k k_at v v_at fs) n fit =
      let p = field_parts n k k_at v v_at fs fit in
      after_comma (AreFieldsOf n (input_field k k_at v v_at fs)) (k ++ (58 ∷ 32 ∷ (display v ++ more_fields fs)))
      (field_reads n k k_at v v_at fs p.0 (value_reads v n p.1) (more_fields_read fs n p.2))

nothing_left : is_ignored between [] [] ≡ true
unfolding is_ignored
nothing_left = refl

pub displays_are_spelled : DisplaysAreSpelled
displays_are_spelled v const named fits deep =
    let r = value_reads v most_brackets (const, named, fits, deep) beginning [] [] stops_end nothing_left in
    let u = r.2 origin in
    (u.0, u.2, (r.0, standing u.1 [], subst (λ bytes. IsText beginning r.0 bytes) (append-nil (display v)) r.1, u.3, refl))
