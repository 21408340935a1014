-- What a registry's calls make: fields, arguments and declarations (3).
use Rattle.std.specs.Prelude.{◌≡◌, Some, None, option_map}
use Rattle.graphql_spec.specs.Shown.{Name}
use Rattle.graphql_spec.specs.Types.{TypeRef}
use Rattle.graphql_spec.specs.Constants.{Constant, meaning}
use Rattle.graphql_spec.specs.Schema.{InputDeclaration, plain_input}

-- an argument of this name and type, without description, whose default value means this (3.6.1)
pub record IsDefaulted (a : InputDeclaration) (n : Name) (t : TypeRef) (v : Constant) : Type 0 where
  pub rest : record a { default = None } ≡ plain_input n t
  pub default : option_map meaning a.default ≡ Some v
