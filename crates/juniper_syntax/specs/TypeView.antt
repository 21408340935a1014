-- How the code's references to types are seen (2.11).
use Rattle.std.specs.Prelude.{true, false, Option, Some, None}
use Rattle.graphql_spec.specs.Shown.{Name}
use Rattle.graphql_spec.specs.Types.{TypeRef, named, list_of}
use Rattle.juniper_syntax.specs.declared.types.«Type».{«Type» as CodeType}
use Rattle.juniper_syntax.specs.declared.types.«Type».TheOpen.{Type-F}
use Rattle.juniper_syntax.specs.declared.types.«Type».TheOpen as open_type
use Rattle.juniper_syntax.specs.declared.types.«Type».TheFolds.{fold-Type}

-- one level, with the type inside already seen
abbrev pub type_step : {N : Type 0} → (N → Name) → Type-F N TypeRef → TypeRef
type_step name (open_type.Named n) = named false (name n)
type_step name (open_type.List t size) = list_of false size t.value
type_step name (open_type.NonNullNamed n) = named true (name n)
type_step name (open_type.NonNullList t size) = list_of true size t.value

abbrev pub view_type : {N : Type 0} → (N → Name) → CodeType N → TypeRef
view_type {N} name = fold-Type N TypeRef (type_step name)

-- the type that doesn't take null
abbrev pub non_null : TypeRef → TypeRef
non_null (named r n) = named true n
non_null (list_of r size t) = list_of true size t

-- the type of a list's items
abbrev pub contents : TypeRef → Option TypeRef
contents (named r n) = None
contents (list_of r size t) = Some t
