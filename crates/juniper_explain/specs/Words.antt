-- Names with their places: of spreads, of type conditions, and of definitions (2.3, 2.8).
use Rattle.std.specs.Prelude.{ℕ, List, [], ◌∷◌, ◌++◌, Option, Some, None, map}
use Rattle.std.specs.Borrow.{Bor}
use Rattle.graphql_spec.specs.Documents.{Word, Selections, end, field, spread, inline, Definition, operation, fragment, VariableDefinition, Directive}
use Rattle.graphql_spec.specs.Inputs.{InputFields, no_fields, input_field}
use Rattle.graphql_spec.specs.Positions.{Span}
use Rattle.graphql_spec.specs.Types.{innermost}
use Rattle.graphql_spec.specs.Written.{selections_of}
use Rattle.juniper_syntax.specs.declared.position.Spanning.{Spanning}
use Rattle.juniper_syntax.specs.declared.position.Span.{Span as At}
use Rattle.juniper_syntax.specs.DocumentView.{view_word}
use Rattle.juniper_explain.specs.declared.words.Words.{Words as Marked}

-- the fragments that selections spread, at any depth
unfoldable pub spread_words : Selections → List Word
spread_words end = []
spread_words (field h below rest) = spread_words below ++ spread_words rest
spread_words (spread x rest) = x.name ∷ spread_words rest
spread_words (inline x below rest) = spread_words below ++ spread_words rest

-- a word, where there is one
unfoldable pub word_list : Option Word → List Word
word_list None = []
word_list (Some w) = w ∷ []

-- the type conditions written inline, at any depth
unfoldable pub inline_words : Selections → List Word
inline_words end = []
inline_words (field h below rest) = inline_words below ++ inline_words rest
inline_words (spread x rest) = inline_words rest
inline_words (inline x below rest) = (word_list x.condition ++ inline_words below) ++ inline_words rest

-- all type conditions of a definition, a fragment's own first
unfoldable pub condition_words : Definition → List Word
condition_words (operation o) = inline_words o.selections
condition_words (fragment f) = f.condition ∷ inline_words f.selections

-- a word, else no name at the place given
unfoldable pub word_or : Option Word → Span → Word
word_or None at = record { item = []; span = at }
word_or (Some w) at = w

-- the name of a definition; an operation without one has no name where it stands itself
unfoldable pub definition_word : Definition → Word
definition_word (operation o) = word_or o.name o.span
definition_word (fragment f) = f.name

-- the innermost name of a variable's type, where the type stands
unfoldable pub type_word : VariableDefinition → Word
type_word v = record { item = innermost v.of_type.item; span = v.of_type.span }

-- the name of a directive, where the directive stands
unfoldable pub directive_word : Directive → Word
directive_word x = record { item = x.name.item; span = x.span }

-- the names of an object value's fields
unfoldable pub field_words : InputFields → List Word
field_words no_fields = []
field_words (input_field k k_at v v_at rest) = record { item = k; span = k_at } ∷ field_words rest

-- spreads and type conditions, each in document order
pub record Words : Type 0 where
  pub spreads : List Word
  pub conditions : List Word

-- those of a definition
unfoldable pub words_of : Definition → Words
words_of x = record { spreads = spread_words (selections_of x); conditions = condition_words x }

-- ## Selections; only private clauses cite what follows

-- the one behind the other
unfoldable pub joined : Words → Words → Words
joined p q = record { spreads = p.spreads ++ q.spreads; conditions = p.conditions ++ q.conditions }

-- those of selections
unfoldable pub words_in : Selections → Words
words_in x = record { spreads = spread_words x; conditions = inline_words x }

abbrev pub view_words : List (Spanning (Bor (List ℕ)) At) → List Word
view_words = map view_word

abbrev pub view_marked : Marked → Words
view_marked w = record { spreads = view_words w.spreads.items; conditions = view_words w.conditions.items }
