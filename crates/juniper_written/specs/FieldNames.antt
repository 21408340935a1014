-- The fields of object values (2.9.8), and which of them have one name (5.6.3).
use Rattle.std.specs.Prelude.{Bool, false, ◌||◌, List, [], ◌∷◌, Option, Some, None}
use Rattle.graphql_spec.specs.Shown.{Name}
use Rattle.graphql_spec.specs.Positions.{Spanned}
use Rattle.graphql_spec.specs.Documents.{Argument, VariableDefinition}
use Rattle.graphql_spec.specs.Inputs.{Input, InputFields, no_fields, input_field}
use Rattle.graphql_spec.specs.Written.{field_repeats}

-- the fields' own names, in order
unfoldable pub names_of : InputFields → List Name
names_of no_fields = []
names_of (input_field k k_at v v_at rest) = k ∷ names_of rest

-- within one of the fields' values an object has two fields of one name
unfoldable pub values_repeat : InputFields → Bool
values_repeat no_fields = false
values_repeat (input_field k k_at v v_at rest) = field_repeats v || values_repeat rest

-- an object in an argument's value has two fields of one name
unfoldable pub value_repeats_in : Argument → Bool
value_repeats_in a = field_repeats a.value.item

-- it is so of a value, where there is one
unfoldable pub value_repeats_or : Option (Spanned Input) → Bool
value_repeats_or None = false
value_repeats_or (Some v) = field_repeats v.item

-- it is so of a variable's default
unfoldable pub default_repeats : VariableDefinition → Bool
default_repeats v = value_repeats_or v.default
