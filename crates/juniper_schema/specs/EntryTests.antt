-- Tests of one entry of a schema (3.4.2, 3.6.1, 3.10). Only private clauses cite them.
use Rattle.std.specs.Prelude.{Bool, ◌&&◌}
use Rattle.std.specs.List.{list_all}
use Rattle.graphql_spec.specs.Schema.{Schema, Shape}
use Rattle.graphql_spec.specs.Executable.{default_is_right, ends_in_input, field_is_known, input_fields_of, shape_fields}

-- the types that it speaks of are known
abbrev pub types_are_known_in : Schema → Shape → Bool
types_are_known_in s x = list_all (field_is_known s) (shape_fields x) && list_all (ends_in_input s) (input_fields_of x)

-- its default values are constant and fit
abbrev pub defaults_fit_in : Schema → Shape → Bool
defaults_fit_in s x = list_all (λ f. list_all (default_is_right s) f.arguments) (shape_fields x) && list_all (default_is_right s) (input_fields_of x)
