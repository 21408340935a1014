-- Entries that stand at their own names.
use Rattle.std.specs.Prelude.{Bool, Some}
use Rattle.graphql_spec.specs.Schema.{Entry}
use Rattle.juniper_registry.specs.Entries.{is_own}

-- it is a placeholder, or has the name that it stands at
unfoldable pub entry_is_own : Entry → Bool
entry_is_own e = is_own (Some e)
