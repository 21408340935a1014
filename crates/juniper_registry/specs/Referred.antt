-- The names of the types that a declaration refers to, in order (3).
use Rattle.std.specs.Prelude.{List, [], ◌∷◌, ◌++◌, map}
use Rattle.graphql_spec.specs.Shown.{Name}
use Rattle.graphql_spec.specs.Types.{innermost}
use Rattle.graphql_spec.specs.Schema.{Shape, FieldDeclaration, InputDeclaration, object_type, interface_type, union_type, input_object_type, list_type}
use Rattle.graphql_spec.specs.Schema.{nullable_type}

-- of arguments and input fields (3.6.1, 3.10)
abbrev pub inputs_refer : List InputDeclaration → List Name
inputs_refer = map (λ a. innermost a.of_type)

-- of fields, and of the arguments behind each (3.6)
abbrev pub fields_refer : List FieldDeclaration → List Name
fields_refer [] = []
fields_refer (f ∷ fs) = innermost f.of_type ∷ (inputs_refer f.arguments ++ fields_refer fs)

-- of a declaration: scalars and enums refer to none
abbrev pub referred : Shape → List Name
referred (object_type fs is) = fields_refer fs ++ is
referred (interface_type fs is) = fields_refer fs ++ is
referred (union_type ms) = ms
referred (input_object_type as') = inputs_refer as'
referred (list_type size t) = innermost t ∷ []
referred (nullable_type t) = innermost t ∷ []
referred _ = []
