-- Reading a document as a function over its tokens, rule by rule; the parser follows it. Only private clauses cite it.
use Rattle.std.specs.Prelude.{ℕ, zero, suc, Bool, true, false, not, ◌||◌, ◌==◌, cond, codes, List, [], ◌∷◌, length, Option, Some, None, option_map, is_some}
use Rattle.std.specs.Str.{bytes_eq}
use Rattle.graphql_spec.specs.Shown.{Text, Name, int, text, boolean}
use Rattle.graphql_spec.specs.Positions.{Position, Span, Spanned}
use Rattle.graphql_spec.specs.Tokens as token
use Rattle.graphql_spec.specs.Tokens.{Lexeme, Token, decoded_int, decoded_string, dots}
use Rattle.graphql_spec.specs.Inputs.{Input, null, scalar, enumerated, variable, list, object, InputItems, no_items, item, InputFields, no_fields, input_field}
use Rattle.graphql_spec.specs.Types.{TypeRef, list_of}
use Rattle.graphql_spec.specs.Types as types
use Rattle.graphql_spec.specs.Documents.{Word, Argument, Arguments, Directive, Head, Spread, Inline, Selections, end, field, spread, inline, VariableDefinition}
use Rattle.graphql_spec.specs.Documents.{OperationType, query, mutation, subscription, Operation, Fragment, Definition, operation, fragment, Document}
use Rattle.graphql_spec.specs.Grammar.{At, begin_of, span_of, true_word, false_word, null_word, on_word, kind_word, most_brackets}
use Rattle.juniper_language.specs.Readers.{Reader, Outcome, ◌>>=◌, pure, refuse, next, sees, expect, a_name, spanned, until, some_until, while_sees, optional}
use Rattle.juniper_language.specs.Readers.{known}

-- ---- values

-- `true`, `false`, `null`, or a value of an enum
abbrev pub word_value : Name → Input
word_value w = cond (bytes_eq w true_word) (scalar (boolean true))
    (cond (bytes_eq w false_word) (scalar (boolean false)) (cond (bytes_eq w null_word) null (enumerated w)))

-- an Int
abbrev pub number_value : Text → Option Input
number_value w = option_map (λ i. scalar (int i)) (decoded_int w)

-- a String
abbrev pub string_value : Text → Option Input
string_value raw = option_map (λ x. scalar (text x)) (decoded_string raw)

-- what parts are, one after the other, of a list and of an object
abbrev pub items_of : List (Spanned Input) → InputItems
items_of [] = no_items
items_of (v ∷ vs) = item v.item v.span (items_of vs)

abbrev pub fields_of : List Argument → InputFields
fields_of [] = no_fields
fields_of (x ∷ xs) = input_field x.name.item x.name.span x.value.item x.value.span (fields_of xs)

-- a name, a colon and a value
abbrev pub named : Reader Input → Reader Argument
named value = a_name >>= (λ x. expect 58 >>= (λ u. spanned value >>= (λ v. pure (record { name = x; value = v }))))

-- any number of values, up to the bracket, and of fields, up to the brace
abbrev pub list_by : Reader Input → Reader Input
list_by value s = (until 93 (spanned value) (length s.ahead) >>= (λ vs. pure (list (items_of vs)))) s

abbrev pub object_by : Reader Input → Reader Input
object_by value s = (until 125 (named value) (length s.ahead) >>= (λ xs. pure (object (fields_of xs)))) s

-- a variable behind its `$`, where one may stand
abbrev pub variable_if : Bool → Reader Input
variable_if true = refuse
variable_if false = a_name >>= (λ x. pure (variable x.item))

-- behind a punctuator: a variable, a list or an object
abbrev pub bracketed : Bool → Reader Input → Reader Input → ℕ → Reader Input
bracketed c items fields m = λ s. cond (m == 36) (variable_if c s) (cond (m == 91) (items s) (cond (m == 123) (fields s) (refuse s)))

-- whether the punctuator may begin a value: a variable where it need not be a constant, and a bracket where one may be opened
unfoldable pub may_begin : Bool → ℕ → ℕ → Bool
may_begin c depth m = cond (m == 36) (not c) (cond ((m == 91) || (m == 123)) (not (depth == 0)) false)

-- behind the first token; brackets hold what the two readers read
abbrev pub value_by : Bool → Reader Input → Reader Input → Lexeme → Reader Input
value_by c items fields (token.mark m) = bracketed c items fields m
value_by c items fields (token.name w) = pure (word_value w)
value_by c items fields (token.int w) = known (number_value w)
value_by c items fields (token.string raw) = known (string_value raw)

-- the number says how many brackets may be opened
unfoldable pub value : Bool → ℕ → Reader Input
value c zero = next >>= (λ t. value_by c refuse refuse t.lexeme)
value c (suc n) = next >>= (λ t. value_by c (list_by (value c n)) (object_by (value c n)) t.lexeme)

-- what stands behind the bracket of a list, and behind the brace of an object, while n more brackets may be opened with it
abbrev pub list_within : Bool → ℕ → Reader Input
list_within c zero = refuse
list_within c (suc n) = list_by (value c n)

abbrev pub object_within : Bool → ℕ → Reader Input
object_within c zero = refuse
object_within c (suc n) = object_by (value c n)

-- ---- types

-- `!`, if it stands there
abbrev pub bang : Reader Bool
bang s = cond (sees 33 s) ((next >>= (λ t. pure true)) s) (pure false s)

-- a list behind its bracket
abbrev pub list_type : Reader TypeRef → Reader TypeRef
list_type inner = inner >>= (λ u. expect 93 >>= (λ v. bang >>= (λ r. pure (list_of r None u))))

abbrev pub named_type : Reader TypeRef
named_type = a_name >>= (λ x. bang >>= (λ r. pure (types.named r x.item)))

unfoldable pub type_ref : ℕ → Reader TypeRef
type_ref zero = named_type
type_ref (suc n) = λ s. cond (sees 91 s) ((next >>= (λ t. list_type (type_ref n))) s) (named_type s)

-- ---- arguments and directives

-- one or more in round brackets; the number says how many brackets may be opened
abbrev pub in_brackets : {A : Type 0} → (ℕ → Reader A) → ℕ → Reader (Spanned (List A))
in_brackets p zero = refuse
in_brackets p (suc n) = spanned (expect 40 >>= (λ u. some_until 41 (p n)))

unfoldable pub argument : Bool → ℕ → Reader Argument
argument c n = named (value c n)

abbrev pub arguments : Bool → ℕ → Reader (Spanned (List Argument))
arguments c = in_brackets (argument c)

-- the arguments of a field or a directive, where it has some
unfoldable pub given : Bool → ℕ → Reader Arguments
given c n = optional 40 (arguments c n)

unfoldable pub directive : Bool → ℕ → Reader Directive
directive c n s = (expect 64 >>= (λ u. a_name >>= (λ x. given c n >>= (λ as' t. pure (record { name = x; arguments = as'; span = span_of s t }) t)))) s

unfoldable pub directives : Bool → ℕ → Reader (List Directive)
directives c n s = while_sees 64 (directive c n) (length s.ahead) s

-- ---- selections

-- a name behind its alias, from the colon on
abbrev pub behind_alias : Word → Reader (Option Word × Word)
behind_alias x = next >>= (λ u. a_name >>= (λ y. pure (Some x, y)))

-- a name, and the alias before it
unfoldable pub label : Reader (Option Word × Word)
label = a_name >>= (λ x s. cond (sees 58 s) (behind_alias x s) (pure (None, x) s))

-- one selection, with what is inside its braces
pub data Node : Type 0 where
  field_node : Head → Selections → Node
  spread_node : Spread → Node
  inline_node : Inline → Selections → Node

abbrev pub put : Node → Selections → Selections
put (field_node h below) rest = field h below rest
put (spread_node x) rest = spread x rest
put (inline_node x below) rest = inline x below rest

abbrev pub selections_of : List Node → Selections
selections_of [] = end
selections_of (x ∷ xs) = put x (selections_of xs)

-- a selection, put before what follows
abbrev pub placed : Reader Node → Reader (Selections → Selections)
placed p = p >>= (λ x. pure (put x))

-- what a loop keeps: the selections found, put before those that are still to be read
abbrev pub put_first : (Selections → Selections) → Outcome (List Node) → Outcome Selections
put_first front (Some p) = Some (front (selections_of p.0), p.1)
put_first front None = None

-- an open brace, and what is behind it
abbrev pub set_by : Reader Selections → Reader Selections
set_by inside = expect 123 >>= (λ u. inside)

-- what is selected, where a set is written
abbrev pub below_of : Option Selections → Selections
below_of None = end
below_of (Some x) = x

abbrev pub head_of : Option Word × Word → Arguments → List Directive → Bool → Span → Head
head_of l as' ds b place = record { alias = l.0; name = l.1; arguments = as'; directives = ds; has_set = b; span = place }

abbrev pub field_by : ℕ → Reader Selections → Reader Node
field_by n inside s = (label >>= (λ l. given false n >>= (λ as'. directives false n
    >>= (λ ds. optional 123 (set_by inside) >>= (λ o t. pure (field_node (head_of l as' ds (is_some o) (span_of s t)) (below_of o)) t))))) s

-- the name that comes next, if one does
abbrev pub word_of : Lexeme → Option Name
word_of (token.mark m) = None
word_of (token.name w) = Some w
word_of (token.int w) = None
word_of (token.string w) = None

abbrev pub first_word : List Token → Option Name
first_word [] = None
first_word (t ∷ ts) = word_of t.lexeme

-- where what comes next begins, and from there to the last token taken
abbrev pub start_of : At → Position
start_of s = begin_of s.last s.ahead

abbrev pub since : Position → At → Span
since start t = record { start = start; end = t.last }

-- an inline fragment behind its condition, and a spread behind its name, each with where it began
abbrev pub inline_by : ℕ → Reader Selections → Position → Option Word → Reader Node
inline_by n inside start condition = directives false n >>= (λ ds. set_by inside
    >>= (λ below t. pure (inline_node (record { condition = condition; directives = ds; span = since start t }) below) t))

abbrev pub spread_by : ℕ → Position → Word → Reader Node
spread_by n start x = directives false n >>= (λ ds t. pure (spread_node (record { name = x; directives = ds; span = since start t })) t)

-- an inline fragment with a condition, from its `on`
abbrev pub conditioned : ℕ → Reader Selections → Position → Reader Node
conditioned n inside start = a_name >>= (λ o. a_name >>= (λ x. inline_by n inside start (Some x)))

abbrev pub spread_from : ℕ → Position → Reader Node
spread_from n start = a_name >>= (λ x. spread_by n start x)

-- behind the dots, by the name that comes next
abbrev pub dotted : ℕ → Reader Selections → Position → Option Name → Reader Node
dotted n inside start None = inline_by n inside start None
dotted n inside start (Some w) = λ a. cond (bytes_eq w on_word) (conditioned n inside start a) (spread_from n start a)

unfoldable pub selection : ℕ → Reader Selections → Reader Node
selection n inside s = cond (sees 46 s) ((expect 46 >>= (λ u a. dotted n inside (start_of s) (first_word a.ahead) a)) s) (field_by n inside s)

-- the selections behind an open brace, up to the closing brace, while n more brackets may be opened
unfoldable pub selections : ℕ → Reader Selections
selections zero = some_until 125 (selection zero refuse) >>= (λ xs. pure (selections_of xs))
selections (suc n) = some_until 125 (selection (suc n) (selections n)) >>= (λ xs. pure (selections_of xs))

-- what stands behind an open brace, while n more brackets may be opened with it
abbrev pub inside_of : ℕ → Reader Selections
inside_of zero = refuse
inside_of (suc n) = selections n

-- ---- variables

-- `=` and a constant
unfoldable pub default_value : ℕ → Reader (Spanned Input)
default_value n = expect 61 >>= (λ u. spanned (value true n))

-- what is said of a variable behind its name, which stands at the place
abbrev pub variable_by : ℕ → Name → Span → Reader VariableDefinition
variable_by n x place = expect 58 >>= (λ u. spanned (type_ref n)
    >>= (λ y. optional 61 (default_value n) >>= (λ v. directives true n
    >>= (λ ds. pure (record { name = record { item = x; span = place }; of_type = y; default = v; directives = ds })))))

unfoldable pub variable_definition : ℕ → Reader VariableDefinition
variable_definition n s = (expect 36 >>= (λ u. a_name >>= (λ x b. variable_by n x.item (span_of s b) b))) s

-- ---- definitions

-- a name, if one comes next
abbrev pub name_by_word : Option Name → Reader (Option Word)
name_by_word None = pure None
name_by_word (Some w) = a_name >>= (λ x. pure (Some x))

abbrev pub name_if : Reader (Option Word)
name_if s = name_by_word (first_word s.ahead) s

-- an operation behind its kind, with where it began
abbrev pub longhand : ℕ → Position → OperationType → Reader Operation
longhand n start kind =
    name_if >>= (λ x. optional 40 (in_brackets variable_definition n) >>= (λ vs. directives false n >>= (λ ds. set_by (inside_of n) >>= (λ y t.
    pure (record { kind = kind; name = x; variables = vs; directives = ds; selections = y; span = since start t }) t))))

-- a query that is its selection set alone
abbrev pub shorthand : ℕ → Reader Operation
shorthand n s =
    (set_by (inside_of n) >>= (λ y t. pure (record { kind = query; name = None; variables = None; directives = []; selections = y; span = span_of s t }) t)) s

-- a name other than `on`; and `on`, and a name
abbrev pub fragment_name : Reader Word
fragment_name = a_name >>= (λ x. cond (bytes_eq x.item on_word) refuse (pure x))

abbrev pub condition : Reader Word
condition = a_name >>= (λ o. cond (bytes_eq o.item on_word) a_name refuse)

-- a fragment behind `fragment`, with where it began
abbrev pub fragment_by : ℕ → Position → Reader Fragment
fragment_by n start = fragment_name >>= (λ x. condition >>= (λ y. directives false n >>= (λ ds. set_by (inside_of n) >>= (λ z t.
    pure (record { name = x; condition = y; directives = ds; selections = z; span = since start t }) t))))

-- an operation, and a fragment, as a definition
abbrev pub as_operation : Reader Operation → Reader Definition
as_operation p = p >>= (λ o. pure (operation o))

abbrev pub as_fragment : Reader Fragment → Reader Definition
as_fragment p = p >>= (λ f. pure (fragment f))

-- the word that a fragment begins with
abbrev pub fragment_word : Name
fragment_word = codes "fragment"

-- the kind that a word names
abbrev pub kind_of : Name → Option OperationType
kind_of w = cond (bytes_eq w (kind_word query)) (Some query) (cond (bytes_eq w (kind_word mutation)) (Some mutation)
    (cond (bytes_eq w (kind_word subscription)) (Some subscription) None))

-- behind the first word: an operation of a kind, or a fragment
abbrev pub behind_word : ℕ → Position → Name → Option OperationType → Reader Definition
behind_word n start w (Some kind) = as_operation (longhand n start kind)
behind_word n start w None = λ a. cond (bytes_eq w fragment_word) (as_fragment (fragment_by n start) a) (refuse a)

abbrev pub by_word : ℕ → Option Name → Reader Definition
by_word n None s = refuse s
by_word n (Some w) s = (a_name >>= (λ x. behind_word n (start_of s) w (kind_of w))) s

unfoldable pub definition : ℕ → Reader Definition
definition n s = cond (sees 123 s) (as_operation (shorthand n) s) (by_word n (first_word s.ahead) s)

-- definitions up to the last token; the number bounds them
abbrev pub if_none_left : {A : Type 0} → List Token → Outcome A → Outcome A → Outcome A
if_none_left [] x y = x
if_none_left (t ∷ ts) x y = y

unfoldable pub definitions : ℕ → Reader (List Definition)
definitions zero s = if_none_left s.ahead (pure [] s) None
definitions (suc k) s = if_none_left s.ahead (pure [] s) ((definition most_brackets >>= (λ x. definitions k >>= (λ xs. pure (x ∷ xs)))) s)

-- one definition at least, and nothing after the last
unfoldable pub document : Reader Document
document s = if_none_left s.ahead None (definitions (length s.ahead) s)
