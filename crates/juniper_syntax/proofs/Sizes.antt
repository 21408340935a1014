-- How large a value is: more than each of its parts.
use Rattle.std.proofs.Common.{ℕ, suc, ◌+◌}
use Rattle.graphql_spec.specs.Values.{Value, Values, Entries, null, scalar, list, object, no_items, item, no_entries, entry}

abbrev mutual
  pub value_size : Value → ℕ
  value_size null = 1
  value_size (scalar x) = 1
  value_size (list vs) = suc (values_size vs)
  value_size (object es) = suc (entries_size es)

  pub values_size : Values → ℕ
  values_size no_items = 1
  values_size (item v rest) = suc (value_size v + values_size rest)

  pub entries_size : Entries → ℕ
  entries_size no_entries = 1
  entries_size (entry k v rest) = suc (value_size v + entries_size rest)
