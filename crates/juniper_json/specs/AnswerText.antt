-- The text of an answer: the JSON of section 7.2.2, with no space.
use Rattle.std.specs.Prelude.{◌+◌, ℕ, List, [], ◌∷◌, codes}
use Rattle.graphql_spec.specs.Shown.{Text, Shown, int, text, boolean}
use Rattle.graphql_spec.specs.Positions.{Position}
use Rattle.graphql_spec.specs.Values as answers
use Rattle.graphql_spec.specs.Values.{Value, Values, Entries}
use Rattle.graphql_spec.specs.Errors.{Listed, Step, key, index}
use Rattle.serde_json.specs.Data as json
use Rattle.serde_json.specs.Data.{Data, Items, Members, member, no_members, item, no_items, unsigned}
use Rattle.serde_json.specs.Find.{of_integer}
use Rattle.serde_json.specs.Written.{compact_text}

abbrev pub number : ℕ → Data
number n = json.number (unsigned n)

-- a scalar (3.5)
unfoldable pub scalar_data : Shown → Data
scalar_data (int z) = json.number (of_integer z)
scalar_data (text t) = json.string t
scalar_data (boolean b) = json.boolean b

-- a value (7.1.1)
unfoldable mutual
  pub value_data : Value → Data
  value_data answers.null = json.null
  value_data (answers.scalar x) = scalar_data x
  value_data (answers.list vs) = json.array (values_data vs)
  value_data (answers.object es) = json.object (entries_data es)

  pub values_data : Values → Items
  values_data answers.no_items = no_items
  values_data (answers.item v rest) = item (value_data v) (values_data rest)

  pub entries_data : Entries → Members
  entries_data answers.no_entries = no_members
  entries_data (answers.entry k v rest) = member k (value_data v) (entries_data rest)

-- a list
unfoldable pub items_data : {A : Type 0} → (A → Data) → List A → Items
items_data f [] = no_items
items_data f (x ∷ rest) = item (f x) (items_data f rest)

-- a step of an error's path: a key, or a place in a list (7.1.2)
unfoldable pub step_data : Step → Data
step_data (key k) = json.string k
step_data (index n) = number n

-- where an error is in the text: its line and column, both from 1 (7.1.2)
unfoldable pub location_data : Position → Data
location_data p = json.object (member (codes "line") (number (p.line + 1)) (member (codes "column") (number (p.column + 1)) no_members))

-- the extensions of an error, but for null
unfoldable pub extensions_data : Value → Members
extensions_data answers.null = no_members
extensions_data v = member (codes "extensions") (value_data v) no_members

-- an error: its message, its one place in the text, its path (7.1.2)
unfoldable pub error_data : Listed → Data
error_data e = json.object (member (codes "message") (json.string e.error.message)
    (member (codes "locations") (json.array (items_data location_data (e.start ∷ [])))
    (member (codes "path") (json.array (items_data step_data e.path)) (extensions_data e.error.extensions))))

-- the errors, where there are some
unfoldable pub errors_data : List Listed → Members
errors_data [] = no_members
errors_data es = member (codes "errors") (json.array (items_data error_data es)) no_members

-- an answer with these data and errors (7.1)
unfoldable pub answer_data : Value → List Listed → Data
answer_data v es = json.object (member (codes "data") (value_data v) (errors_data es))

-- its text
abbrev pub answer_text : Value → List Listed → Text
answer_text v es = compact_text (answer_data v es)
