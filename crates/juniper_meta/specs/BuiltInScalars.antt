-- The scalars that every schema may use (3.5).
use Rattle.std.specs.Prelude.{true, false, None}
use Rattle.graphql_spec.specs.Shown.{Name}
use Rattle.graphql_spec.specs.Schema.{ScalarKinds, scalar_type}
use Rattle.juniper_meta.specs.MetaView.{Meta, named_meta}

-- texts alone, as `String` accepts (3.5.3)
abbrev pub texts : ScalarKinds
texts = record { int = false; text = true; boolean = false }

-- Booleans alone, as `Boolean` accepts (3.5.4)
abbrev pub booleans : ScalarKinds
booleans = record { int = false; text = false; boolean = true }

-- Ints alone, as `Int` accepts (3.5.1)
abbrev pub ints : ScalarKinds
ints = record { int = true; text = false; boolean = false }

-- Ints and texts, as `ID` accepts (3.5.5)
abbrev pub ids : ScalarKinds
ids = record { int = true; text = true; boolean = false }

-- the declaration of a scalar, without description and URL
abbrev pub scalar_of : Name → ScalarKinds → Meta
scalar_of n k = named_meta n (scalar_type k None)
