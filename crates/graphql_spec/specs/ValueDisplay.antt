-- How values of answers are written: as JSON, on one line (7.2.1).
use Rattle.std.specs.Prelude.{codes, [], ◌∷◌, ◌++◌}
use Rattle.graphql_spec.specs.Shown.{Text}
use Rattle.graphql_spec.specs.Display.{shown_text_of, quoted}
use Rattle.graphql_spec.specs.Values.{Value, null, scalar, list, object, Values, no_items, item, Entries, no_entries, entry}

unfoldable mutual
  -- a value, by its kind
  pub display_value : Value → Text
  display_value null = codes "null"
  display_value (scalar s) = shown_text_of s
  display_value (list vs) = 91 ∷ (display_values vs ++ 93 ∷ [])
  display_value (object es) = 123 ∷ (display_entries es ++ 125 ∷ [])

  -- the first item, and the others after it
  pub display_values : Values → Text
  display_values no_items = []
  display_values (item v rest) = display_value v ++ more_values rest

  -- each after a comma
  pub more_values : Values → Text
  more_values no_items = []
  more_values (item v rest) = codes ", " ++ (display_value v ++ more_values rest)

  -- the first key with its value, and the others after it
  pub display_entries : Entries → Text
  display_entries no_entries = []
  display_entries (entry k v rest) = quoted k ++ (codes ": " ++ (display_value v ++ more_entries rest))

  -- each after a comma
  pub more_entries : Entries → Text
  more_entries no_entries = []
  more_entries (entry k v rest) = codes ", " ++ (quoted k ++ (codes ": " ++ (display_value v ++ more_entries rest)))
