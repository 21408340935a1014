-- The text of an answer read back: by the grammar of JSON (RFC 8259) it is one value, which says the data and the errors (7.1, 7.2.2).
use Rattle.std.specs.Prelude.{◌≡◌, ◌+◌, ◌<◌, ◌≤◌, ◌^◌, ℕ, true, codes, List, [], ◌∷◌, map, Option, Some, None, option_map, option_and_then}
use Rattle.graphql_spec.specs.Shown.{Name, Text, Shown, int, text, boolean}
use Rattle.graphql_spec.specs.Tokens.{digits_value, fits_int, int_value}
use Rattle.graphql_spec.specs.Values as answers
use Rattle.graphql_spec.specs.Values.{Value, Values, Entries}
use Rattle.graphql_spec.specs.Errors.{Listed, Place, Step, key, index}
use Rattle.json.specs.Lex.{tokens}
use Rattle.json.specs.Json.{Json, null, boolean as truth, number, string, array, object, Items, no_items, item, Members, no_members, member, value}
use Rattle.json.specs.Find.{as_number, as_str, get}
use Rattle.json.specs.Tree.{depth}
use Rattle.juniper_json.specs.AnswerText.{answer_text}

-- the text is that of this JSON value: where brackets may be open as deep as in the value, it is read as the value, and nothing is left
abbrev pub IsJsonOf : Text → Json → Type 0
IsJsonOf t j = (n : ℕ) → depth j ≤ n → value n (tokens t) ≡ Some (j, [])

-- ## What a JSON value says (7.1.1, 7.2.2)

-- a number says an Int
unfoldable mutual
  pub said : Json → Value
  said null = answers.null
  said (truth b) = answers.scalar (boolean b)
  said (number digits) = answers.scalar (int (int_value digits))
  said (string t) = answers.scalar (text t)
  said (array js) = answers.list (said_items js)
  said (object ms) = answers.object (said_entries ms)

  pub said_items : Items → Values
  said_items no_items = answers.no_items
  said_items (item j rest) = answers.item (said j) (said_items rest)

  pub said_entries : Members → Entries
  said_entries no_members = answers.no_entries
  said_entries (member k j rest) = answers.entry k (said j) (said_entries rest)

-- ## What it says of an error (7.1.2)

-- an error as an answer shows it: its message, its line and column, both from 1, its path, and its extensions, or null
pub record ShownError : Type 0 where
  pub message : Text
  pub line : ℕ
  pub column : ℕ
  pub path : Place
  pub extensions : Value

-- what is shown of an error
abbrev pub shown_error : Listed → ShownError
shown_error e = record {
  message = e.error.message;
  line = e.start.line + 1;
  column = e.start.column + 1;
  path = e.path;
  extensions = e.error.extensions;
}

-- what each item says, where each says something
unfoldable pub items_said : {A : Type 0} → (Json → Option A) → Items → Option (List A)
items_said f no_items = Some []
items_said f (item j rest) = option_and_then (λ x. option_map (λ xs. x ∷ xs) (items_said f rest)) (f j)

-- the same of an array
unfoldable pub list_said : {A : Type 0} → (Json → Option A) → Json → Option (List A)
list_said f (array js) = items_said f js
list_said f _ = None

-- the only item of a list
unfoldable pub only : {A : Type 0} → List A → Option A
only (x ∷ []) = Some x
only _ = None

-- what the member of a name says
unfoldable pub member_said : {A : Type 0} → (Json → Option A) → Name → Json → Option A
member_said f k j = option_and_then f (get k j)

-- a natural number
unfoldable pub number_said : Json → Option ℕ
number_said j = option_map (digits_value 0) (as_number j)

-- a step of a path: a response key, or a place in a list
unfoldable pub step_said : Json → Option Step
step_said (string t) = Some (key t)
step_said (number digits) = Some (index (digits_value 0 digits))
step_said _ = None

-- a place in the text: its line and column
unfoldable pub place_said : Json → Option (ℕ × ℕ)
place_said j =
    option_and_then (λ line. option_map (λ column. (line, column)) (member_said number_said (codes "column") j)) (member_said number_said (codes "line") j)

-- what stands there, or null
unfoldable pub said_or_null : Option Json → Value
said_or_null None = answers.null
said_or_null (Some j) = said j

-- an error of this message, at this place in the text, with this path
unfoldable pub error_with : Json → Text → (ℕ × ℕ) → Place → ShownError
error_with j message place path =
    record { message = message; line = place.0; column = place.1; path = path; extensions = said_or_null (get (codes "extensions") j) }

-- an error, with its one place in the text
unfoldable pub error_said : Json → Option ShownError
error_said j = option_and_then (λ message. option_and_then (λ place.
    option_map (error_with j message place) (member_said (list_said step_said) (codes "path") j))
    (option_and_then only (member_said (list_said place_said) (codes "locations") j))) (member_said as_str (codes "message") j)

-- the errors, where there are some
unfoldable pub errors_said : Option Json → Option (List ShownError)
errors_said None = Some []
errors_said (Some j) = list_said error_said j

-- an answer: its data and its errors (7.1)
unfoldable pub answer_said : Json → Option (Value × List ShownError)
answer_said j =
    option_and_then (λ data_is. option_map (λ errors. (data_is, errors)) (errors_said (get (codes "errors") j))) (option_map said (get (codes "data") j))

-- ## The law

-- each Int is of 32 bits (3.5.1)
abbrev pub IsInt : Shown → Type 0
IsInt (int z) = fits_int z ≡ true
IsInt (text t) = Unit {0}
IsInt (boolean b) = Unit {0}

-- and so in a value
abbrev mutual
  pub HasInts : Value → Type 0
  HasInts answers.null = Unit {0}
  HasInts (answers.scalar x) = IsInt x
  HasInts (answers.list vs) = HaveInts vs
  HasInts (answers.object es) = EntriesHaveInts es

  pub HaveInts : Values → Type 0
  HaveInts answers.no_items = Unit {0}
  HaveInts (answers.item v rest) = HasInts v × HaveInts rest

  pub EntriesHaveInts : Entries → Type 0
  EntriesHaveInts answers.no_entries = Unit {0}
  EntriesHaveInts (answers.entry k v rest) = HasInts v × EntriesHaveInts rest

-- places in lists are of 64 bits
abbrev pub AreCounted : Place → Type 0
AreCounted [] = Unit {0}
AreCounted (key k ∷ rest) = AreCounted rest
AreCounted (index n ∷ rest) = (n < 2 ^ 64) × AreCounted rest

-- the numbers of an error are of these sizes
pub record HasNumbers (e : Listed) : Type 0 where
  pub line : e.start.line + 1 < 2 ^ 64
  pub column : e.start.column + 1 < 2 ^ 64
  pub path : AreCounted e.path
  pub extensions : HasInts e.error.extensions

-- and those of each error
abbrev pub AllHaveNumbers : List Listed → Type 0
AllHaveNumbers [] = Unit {0}
AllHaveNumbers (e ∷ es) = HasNumbers e × AllHaveNumbers es

-- the text of an answer is that of one JSON value, which says its data and errors
abbrev pub AnswersReadBack : Type 0
AnswersReadBack = (v : Value) (es : List Listed) → HasInts v → AllHaveNumbers es →
    (j : Json) × IsJsonOf (answer_text v es) j × (answer_said j ≡ Some (v, map shown_error es))
