-- How the code's registries are seen (3).
use Rattle.std.specs.declared.cmp.PartialEq.{Ghosts as Equality}
use Rattle.std.specs.declared.fmt.Debug.{Ghosts as Shows}
use Rattle.graphql_spec.specs.Shown.{Shown}
use Rattle.juniper_syntax.specs.declared.scalar.ScalarValue.{Ghosts as Scalars}
use Rattle.juniper_registry.specs.declared.registry.Registry.{Registry}
use Rattle.juniper_registry.specs.Entries.{Table, table}

module _ {S : Type 0} {scalar : Scalars S} {equality : Equality S} {shows : Shows S} where
  -- what stands at each name
  abbrev pub view_registry : (S → Shown) → Registry S scalar equality shows → Table
  view_registry shown r = table shown r.types
