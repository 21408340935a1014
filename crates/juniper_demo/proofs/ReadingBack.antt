-- The text of an answer is that of one JSON value, which says its data and errors.
use Rattle.std.proofs.Common.{◌≡◌, ℕ, ◌+◌, ◌<◌, ◌^◌, ℤ, pos, negsuc, true, List, [], ◌∷◌, map, Some, codes, decimal, refl, sym, ap, ap₂, ◌∙◌, arith}
use Rattle.std.proofs.Common.{append-nil, None, inl, inr, ◌⊎◌}
use Rattle.std.proofs.lemmas.Bool.{and_parts, leb-true}
use Rattle.std.proofs.lemmas.Fmt.{digits_value-decimal}
use Rattle.std.proofs.lemmas.Str.Parse.{IsNumeralModel, FoldsDigits, tells_all_ascii_digits, numerals_by_fold}
use Rattle.std.specs.Int.Signed.{mag}
use Rattle.std.specs.Str.{all_ascii_digits}
use Rattle.graphql_spec.specs.Shown.{Shown, int, text, boolean}
use Rattle.graphql_spec.specs.Tokens.{digits_value, fits_int}
use Rattle.graphql_spec.specs.Values as answers
use Rattle.graphql_spec.specs.Values.{Value, Values, Entries}
use Rattle.graphql_spec.specs.Errors.{Listed, Place, key, index}
use Rattle.graphql_spec.proofs.DisplayedWords.{int_written}
use Rattle.json.specs.Find.{get_member}
use Rattle.json.specs.Json as json
use Rattle.json.specs.Lex.{tokens}
use Rattle.json.specs.Tree.{json_tokens, HasNumbers as Numbers, ItemsHaveNumbers, MembersHaveNumbers}
use Rattle.json.proofs.Printed.Decimals.{IsNumber-decimal, IsNumber-signed_decimal}
use Rattle.json.proofs.Printed.Tokens.{tokens-print}
use Rattle.json.proofs.Printed.Trees.{value-json_tokens, ArePrintable-json_tokens}
use Rattle.serde_json.specs.Data.{Data}
use Rattle.serde_json.specs.Written.{outline, items_outline, members_outline, compact_text}
use Rattle.serde_json.proofs.Texts.{print-outline}
use Rattle.juniper_json.specs.AnswerText.{value_data, values_data, entries_data, scalar_data, items_data, step_data, location_data, extensions_data}
use Rattle.juniper_json.specs.AnswerText.{error_data, errors_data, answer_data}
use Rattle.juniper_demo.specs.ReadBack.{IsJsonOf, said, said_items, said_entries, shown_error, items_said, list_said, only, member_said, number_said}
use Rattle.juniper_demo.specs.ReadBack.{step_said, place_said, said_or_null, error_with, error_said, errors_said, answer_said, IsInt}
use Rattle.juniper_demo.specs.ReadBack.{HasInts, HaveInts, EntriesHaveInts, AreCounted, HasNumbers, AllHaveNumbers, AnswersReadBack}

-- ## Numbers

folds : FoldsDigits digits_value
unfolding digits_value
folds = record { empty = λ n. refl; more = λ n c cs k. refl }

model : IsNumeralModel (λ ds. all_ascii_digits ds ≡ true) (digits_value 0)
model = numerals_by_fold (λ ds. all_ascii_digits ds ≡ true) tells_all_ascii_digits digits_value folds

number_back : (n : ℕ) → n < 2 ^ 64 → digits_value 0 (decimal n) ≡ n
number_back n small = digits_value-decimal model n small

-- an Int is small, whatever its sign
small_enough : (z : ℤ) → fits_int z ≡ true → mag z < 2 ^ 63
unfolding fits_int
small_enough (pos n) e = omega (arith, leb-true n 2147483647 e)
small_enough (negsuc n) e = omega (arith, leb-true n 2147483647 (and_parts _ _ e).0)

-- ## The text is that of the value

scalar_is_number : (x : Shown) → IsInt x → Numbers (outline (scalar_data x))
unfolding scalar_data
scalar_is_number (int (pos n)) fits = IsNumber-signed_decimal (pos n) (small_enough (pos n) fits)
scalar_is_number (int (negsuc n)) fits = IsNumber-signed_decimal (negsuc n) (small_enough (negsuc n) fits)
scalar_is_number (text t) fits = tt
scalar_is_number (boolean b) fits = tt

mutual
  unfolding value_data values_data entries_data

  has_numbers : (v : Value) → HasInts v → Numbers (outline (value_data v))
  has_numbers answers.null h = tt
  has_numbers (answers.scalar x) h = scalar_is_number x h
  has_numbers (answers.list vs) h = have_numbers vs h
  has_numbers (answers.object es) h = entries_have_numbers es h

  have_numbers : (vs : Values) → HaveInts vs → ItemsHaveNumbers (items_outline (values_data vs))
  have_numbers answers.no_items h = tt
  have_numbers (answers.item v rest) h = (has_numbers v h.0, have_numbers rest h.1)

  entries_have_numbers : (es : Entries) → EntriesHaveInts es → MembersHaveNumbers (members_outline (entries_data es))
  entries_have_numbers answers.no_entries h = tt
  entries_have_numbers (answers.entry k v rest) h = (has_numbers v h.0, entries_have_numbers rest h.1)

path_has_numbers : (p : Place) → AreCounted p → ItemsHaveNumbers (items_outline (items_data step_data p))
unfolding items_data step_data
path_has_numbers [] h = tt
path_has_numbers (key k ∷ rest) h = (tt, path_has_numbers rest h)
path_has_numbers (index n ∷ rest) h = (IsNumber-decimal n h.0, path_has_numbers rest h.1)

extensions_have_numbers : (x : Value) → HasInts x → MembersHaveNumbers (members_outline (extensions_data x))
unfolding extensions_data
extensions_have_numbers answers.null h = tt
extensions_have_numbers (answers.scalar x) h = (has_numbers (answers.scalar x) h, tt)
extensions_have_numbers (answers.list vs) h = (has_numbers (answers.list vs) h, tt)
extensions_have_numbers (answers.object es) h = (has_numbers (answers.object es) h, tt)

error_has_numbers : (e : Listed) → HasNumbers e → Numbers (outline (error_data e))
unfolding error_data items_data location_data
error_has_numbers e h = (
  tt,
  (
    ((IsNumber-decimal (e.start.line + 1) h.line, (IsNumber-decimal (e.start.column + 1) h.column, tt)), tt),
    (path_has_numbers e.path h.path, extensions_have_numbers e.error.extensions h.extensions),
  ),
)

errors_have_numbers : (es : List Listed) → AllHaveNumbers es → ItemsHaveNumbers (items_outline (items_data error_data es))
unfolding items_data
errors_have_numbers [] h = tt
errors_have_numbers (e ∷ es) h = (error_has_numbers e h.0, errors_have_numbers es h.1)

answer_has_numbers : (v : Value) (es : List Listed) → HasInts v → AllHaveNumbers es → Numbers (outline (answer_data v es))
unfolding answer_data errors_data
answer_has_numbers v [] h k = (has_numbers v h, tt)
answer_has_numbers v (e ∷ es) h k = (has_numbers v h, (errors_have_numbers (e ∷ es) k, tt))

is_json_of : (d : Data) → Numbers (outline d) → IsJsonOf (compact_text d) (outline d)
is_json_of d h n deep =
    ap (json.value n) (ap tokens (sym (print-outline d)) ∙ tokens-print (json_tokens (outline d)) (ArePrintable-json_tokens (outline d) h)
    ∙ sym (append-nil (json_tokens (outline d)))) ∙ value-json_tokens (outline d) n [] deep

-- ## What the value says

scalar_back : (x : Shown) → IsInt x → said (outline (scalar_data x)) ≡ answers.scalar x
unfolding said scalar_data
scalar_back (int (pos n)) fits = ap (λ z. answers.scalar (int z)) (int_written (pos n) fits).1
scalar_back (int (negsuc n)) fits = ap (λ z. answers.scalar (int z)) (int_written (negsuc n) fits).1
scalar_back (text t) fits = refl
scalar_back (boolean b) fits = refl

mutual
  unfolding value_data values_data entries_data said said_items said_entries

  said_back : (v : Value) → HasInts v → said (outline (value_data v)) ≡ v
  said_back answers.null h = refl
  said_back (answers.scalar x) h = scalar_back x h
  said_back (answers.list vs) h = ap answers.list (items_back vs h)
  said_back (answers.object es) h = ap answers.object (entries_back es h)

  items_back : (vs : Values) → HaveInts vs → said_items (items_outline (values_data vs)) ≡ vs
  items_back answers.no_items h = refl
  items_back (answers.item v rest) h = ap₂ answers.item (said_back v h.0) (items_back rest h.1)

  entries_back : (es : Entries) → EntriesHaveInts es → said_entries (members_outline (entries_data es)) ≡ es
  entries_back answers.no_entries h = refl
  entries_back (answers.entry k v rest) h = ap₂ (answers.entry k) (said_back v h.0) (entries_back rest h.1)

path_back : (p : Place) → AreCounted p → items_said step_said (items_outline (items_data step_data p)) ≡ Some p
unfolding items_said step_said items_data step_data
path_back [] h = refl
path_back (key k ∷ rest) h = rw (path_back rest h) refl
path_back (index n ∷ rest) h = rw (path_back rest h.1, number_back n h.0) refl

-- no other member has the name of the extensions
no_message : (x : Value) → get_member (codes "message") (members_outline (extensions_data x)) ≡ None
unfolding extensions_data
no_message answers.null = refl
no_message (answers.scalar x) = refl
no_message (answers.list vs) = refl
no_message (answers.object es) = refl

no_locations : (x : Value) → get_member (codes "locations") (members_outline (extensions_data x)) ≡ None
unfolding extensions_data
no_locations answers.null = refl
no_locations (answers.scalar x) = refl
no_locations (answers.list vs) = refl
no_locations (answers.object es) = refl

no_path : (x : Value) → get_member (codes "path") (members_outline (extensions_data x)) ≡ None
unfolding extensions_data
no_path answers.null = refl
no_path (answers.scalar x) = refl
no_path (answers.list vs) = refl
no_path (answers.object es) = refl

-- the extensions are null and not written, or they are written
Extended : Value → Type 0
Extended x = ((get_member (codes "extensions") (members_outline (extensions_data x)) ≡ None) × (x ≡ answers.null))
    ⊎ (get_member (codes "extensions") (members_outline (extensions_data x)) ≡ Some (outline (value_data x)))

extended : (x : Value) → Extended x
unfolding Extended extensions_data
extended answers.null = inl (refl, refl)
extended (answers.scalar x) = inr refl
extended (answers.list vs) = inr refl
extended (answers.object es) = inr refl

error_back : (e : Listed) → HasNumbers e → error_said (outline (error_data e)) ≡ Some (shown_error e)
unfolding Extended error_said error_with member_said list_said items_said place_said number_said only said_or_null error_data items_data location_data
error_back e h =
    let x : Value = e.error.extensions in
    elim (extended x) [
      | inl a ↦ rw (
        no_message x,
        no_locations x,
        no_path x,
        path_back e.path h.path,
        a.0,
        number_back (e.start.line + 1) h.line,
        number_back (e.start.column + 1) h.column,
      ) (ap (λ y. Some (record (shown_error e) { extensions = y })) (sym a.1))
      | inr a ↦ rw (
        no_message x,
        no_locations x,
        no_path x,
        path_back e.path h.path,
        a,
        number_back (e.start.line + 1) h.line,
        number_back (e.start.column + 1) h.column,
        said_back x h.extensions,
      ) refl
    ]

errors_back : (es : List Listed) → AllHaveNumbers es → items_said error_said (items_outline (items_data error_data es)) ≡ Some (map shown_error es)
unfolding items_said items_data
errors_back [] h = refl
errors_back (e ∷ es) h = rw (error_back e h.0, errors_back es h.1) refl

answer_back : (v : Value) (es : List Listed) → HasInts v → AllHaveNumbers es → answer_said (outline (answer_data v es)) ≡ Some (v, map shown_error es)
unfolding answer_said errors_said list_said answer_data errors_data
answer_back v [] h k = rw (said_back v h) refl
answer_back v (e ∷ es) h k = rw (said_back v h, errors_back (e ∷ es) k) refl

pub answers-read-back : AnswersReadBack
answers-read-back v es h k =
    (outline (answer_data v es), is_json_of (answer_data v es) (answer_has_numbers v es h k), answer_back v es h k)
