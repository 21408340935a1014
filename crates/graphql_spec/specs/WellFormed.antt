-- What holds of everything that a text spells: names are Names (2.1.9), an enum's values are none of `true`, `false` and
-- `null` (2.9.6), Ints are of 32 bits (3.5.1), and brackets nest only so deep.
use Rattle.std.specs.Prelude.{ℕ, zero, suc, Bool, true, false, not, ◌&&◌, ◌||◌}
use Rattle.std.specs.Str.{bytes_eq}
use Rattle.graphql_spec.specs.Shown.{Name, int, text, boolean}
use Rattle.graphql_spec.specs.Tokens.{is_name, fits_int}
use Rattle.graphql_spec.specs.Grammar.{true_word, false_word, null_word}
use Rattle.graphql_spec.specs.Inputs.{Input, null, scalar, enumerated, variable, list, object, InputItems, no_items, item, InputFields, no_fields, input_field}

-- a Name other than `true`, `false` and `null` (2.9.6)
unfoldable pub is_enum_name : Name → Bool
is_enum_name w = is_name w && not (bytes_eq w true_word || (bytes_eq w false_word || bytes_eq w null_word))

unfoldable mutual
  -- the names in a value are Names, and its enum values are none of the three words
  pub is_named : Input → Bool
  is_named null = true
  is_named (scalar s) = true
  is_named (enumerated w) = is_enum_name w
  is_named (variable x) = is_name x
  is_named (list is) = items_are_named is
  is_named (object fs) = fields_are_named fs

  pub items_are_named : InputItems → Bool
  items_are_named no_items = true
  items_are_named (item v at rest) = is_named v && items_are_named rest

  pub fields_are_named : InputFields → Bool
  fields_are_named no_fields = true
  fields_are_named (input_field k k_at v v_at rest) = is_name k && (is_named v && fields_are_named rest)

unfoldable mutual
  -- at most that many brackets are open at once in a value
  pub nests : ℕ → Input → Bool
  nests n null = true
  nests n (scalar s) = true
  nests n (enumerated w) = true
  nests n (variable x) = true
  nests zero (list is) = false
  nests zero (object fs) = false
  nests (suc n) (list is) = items_nest n is
  nests (suc n) (object fs) = fields_nest n fs

  pub items_nest : ℕ → InputItems → Bool
  items_nest n no_items = true
  items_nest n (item v at rest) = nests n v && items_nest n rest

  pub fields_nest : ℕ → InputFields → Bool
  fields_nest n no_fields = true
  fields_nest n (input_field k k_at v v_at rest) = nests n v && fields_nest n rest

unfoldable mutual
  -- the Ints in a value are of 32 bits (3.5.1)
  pub ints_fit : Input → Bool
  ints_fit null = true
  ints_fit (scalar (int z)) = fits_int z
  ints_fit (scalar (text t)) = true
  ints_fit (scalar (boolean b)) = true
  ints_fit (enumerated w) = true
  ints_fit (variable x) = true
  ints_fit (list is) = ints_fit_items is
  ints_fit (object fs) = ints_fit_fields fs

  pub ints_fit_items : InputItems → Bool
  ints_fit_items no_items = true
  ints_fit_items (item v at rest) = ints_fit v && ints_fit_items rest

  pub ints_fit_fields : InputFields → Bool
  ints_fit_fields no_fields = true
  ints_fit_fields (input_field k k_at v v_at rest) = ints_fit v && ints_fit_fields rest
