-- How many fields an answer has (7.1.1): what a budget of fields bounds.
use Rattle.std.specs.Prelude.{ℕ, suc, ◌+◌, List, [], ◌∷◌, Option, unwrap_or}
use Rattle.graphql_spec.specs.Values.{Value, null, scalar, list, object, Values, no_items, item, Entries, no_entries, entry}

unfoldable mutual
  -- the entries of its objects, at every depth
  pub fields_in : Value → ℕ
  fields_in null = 0
  fields_in (scalar x) = 0
  fields_in (list vs) = fields_in_items vs
  fields_in (object es) = fields_in_entries es

  -- of a list, item by item
  pub fields_in_items : Values → ℕ
  fields_in_items no_items = 0
  fields_in_items (item v rest) = fields_in v + fields_in_items rest

  -- of an object: its entries, and what they hold
  pub fields_in_entries : Entries → ℕ
  fields_in_entries no_entries = 0
  fields_in_entries (entry k v rest) = suc (fields_in v + fields_in_entries rest)

-- of all of these values
unfoldable pub fields_in_all : List Value → ℕ
fields_in_all [] = 0
fields_in_all (v ∷ vs) = fields_in v + fields_in_all vs

-- the most that may be entered: where no budget is given, as many as can be counted
abbrev pub most_fields : Option ℕ → ℕ
most_fields fields = unwrap_or fields 18446744073709551615
