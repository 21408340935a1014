-- What becomes a cell: an object with an Int at each of two names (3.10).
use Rattle.std.specs.Prelude.{◌≡◌, ◌⊎◌, ℤ, codes, Option, Some, None, Result, Ok, Err}
use Rattle.std.specs.Option.{option_and_then}
use Rattle.graphql_spec.specs.Shown.{Name}
use Rattle.graphql_spec.specs.Constants.{Constant, null, scalar, enumerated, variable, list, object, find}
use Rattle.graphql_spec.specs.Resolvers.{Error}
use Rattle.juniper_conversions.specs.Conversions.{int_of}
use Rattle.juniper_conversions.specs.Messages.{message_alone}
use Rattle.juniper_value_tests.specs.declared.cell.Cell.{Cell}

-- the Int that an object has at a name
abbrev pub int_at : Name → Constant → Option ℤ
int_at name null = None
int_at name (scalar s) = None
int_at name (enumerated e) = None
int_at name (variable x) = None
int_at name (list vs) = None
int_at name (object ms) = option_and_then int_of (find name ms)

abbrev pub GivesCell : {E : Type 0} → (E → Error) → Constant → Result Cell E → Type 0
GivesCell error v (Ok c) = (int_at (codes "column") v ≡ Some c.column) × (int_at (codes "row") v ≡ Some c.row)
GivesCell error v (Err e) = ((int_at (codes "column") v ≡ None) ⊎ (int_at (codes "row") v ≡ None)) × (error e ≡ message_alone (codes "Expected a cell"))
