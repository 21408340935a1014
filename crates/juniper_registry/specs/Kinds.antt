-- The names of kinds of types (4.2.2).
use Rattle.std.specs.Prelude.{codes}
use Rattle.graphql_spec.specs.Shown.{Name}
use Rattle.juniper_registry.specs.declared.type_kind.TypeKind.{TypeKind}
use Rattle.juniper_registry.specs.declared.type_kind.TypeKind.TheVariants as kind

abbrev pub view_kind : TypeKind → Name
view_kind kind.Scalar = codes "SCALAR"
view_kind kind.Object = codes "OBJECT"
view_kind kind.Interface = codes "INTERFACE"
view_kind kind.Union = codes "UNION"
view_kind kind.Enum = codes "ENUM"
view_kind kind.InputObject = codes "INPUT_OBJECT"
view_kind kind.List = codes "LIST"
view_kind kind.NonNull = codes "NON_NULL"
