-- The kind of a type by its reference and what it is declared as (4.2.2).
use Rattle.std.specs.Prelude.{Option, Some, None}
use Rattle.graphql_spec.specs.Introspected.{declared_kind}
use Rattle.graphql_spec.specs.Schema.{Shape}
use Rattle.graphql_spec.specs.Shown.{Name}
use Rattle.graphql_spec.specs.Types.{TypeRef}
use Rattle.juniper_intro.specs.References.{wrapper_kind}

-- ## Only private clauses cite what follows

-- the first, else the second
abbrev pub kind_or : Option Name → Option Name → Option Name
kind_or (Some k) o = Some k
kind_or None o = o

-- that of a non-null type or a list, else that of what is declared
abbrev pub kind_in : TypeRef → Option Shape → Option Name
kind_in t o = kind_or (wrapper_kind t) (declared_kind o)
