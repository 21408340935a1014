-- Variables in values, each with its place (2.10, 5.8.3).
use Rattle.std.specs.Prelude.{List, [], ◌∷◌, ◌++◌, map}
use Rattle.std.specs.List.{flat_map}
use Rattle.graphql_spec.specs.Shown.{Name}
use Rattle.graphql_spec.specs.Positions.{Span}
use Rattle.graphql_spec.specs.Inputs.{Input, variable, list, object, InputItems, no_items, item, InputFields, no_fields, input_field}
use Rattle.graphql_spec.specs.Documents.{Argument, Definition, Word}
use Rattle.graphql_spec.specs.Written.{argument_lists}

-- the variables in a value that stands here
unfoldable mutual
  pub variable_words : Input → Span → List Word
  variable_words (variable x) at = record { item = x; span = at } ∷ []
  variable_words (list is) at = words_in_items is
  variable_words (object fs) at = words_in_fields fs
  variable_words _ at = []

  -- item by item
  pub words_in_items : InputItems → List Word
  words_in_items no_items = []
  words_in_items (item v at rest) = variable_words v at ++ words_in_items rest

  -- field by field
  pub words_in_fields : InputFields → List Word
  words_in_fields no_fields = []
  words_in_fields (input_field k k_at v v_at rest) = variable_words v v_at ++ words_in_fields rest

-- those in an argument
unfoldable pub words_given : Argument → List Word
words_given a = variable_words a.value.item a.value.span

-- those in the arguments of a definition's fields and directives
unfoldable pub words_used : Definition → List Word
words_used x = flat_map (flat_map words_given) (argument_lists x)

-- the same without their places
abbrev pub names_of_words : List Word → List Name
names_of_words = map (λ w. w.item)
