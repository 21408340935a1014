-- Input values but for their places, and the texts that spell a constant (2.9).
use Rattle.std.specs.Prelude.{◌≡◌, ℕ, true, List, []}
use Rattle.graphql_spec.specs.Positions.{Span, origin, beginning}
use Rattle.graphql_spec.specs.Inputs.{Input, null, scalar, enumerated, variable, list, object, InputItems, no_items, item, InputFields, no_fields, input_field}
use Rattle.graphql_spec.specs.Tokens.{Token, IsText}
use Rattle.graphql_spec.specs.Grammar.{At, IsValue, most_brackets, before_all}

-- one place for all
abbrev pub nowhere : Span
nowhere = record { start = origin; end = origin }

unfoldable mutual
  -- a value with that one place at each item, name and field; two values that become the same differ in places alone
  pub unplaced : Input → Input
  unplaced null = null
  unplaced (scalar s) = scalar s
  unplaced (enumerated w) = enumerated w
  unplaced (variable x) = variable x
  unplaced (list is) = list (unplaced_items is)
  unplaced (object fs) = object (unplaced_fields fs)

  pub unplaced_items : InputItems → InputItems
  unplaced_items no_items = no_items
  unplaced_items (item v at rest) = item (unplaced v) nowhere (unplaced_items rest)

  pub unplaced_fields : InputFields → InputFields
  unplaced_fields no_fields = no_fields
  unplaced_fields (input_field k k_at v v_at rest) = input_field k nowhere (unplaced v) nowhere (unplaced_fields rest)

-- the text spells the constant, and nothing more
abbrev pub SpellsConstant : List ℕ → Input → Type 0
SpellsConstant bytes v = (ts : List Token) × (t : At) × IsText beginning ts bytes × IsValue true v most_brackets (before_all ts) t × (t.ahead ≡ [])
