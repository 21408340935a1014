-- How the code's errors are seen (6.4.4, 7.1.2).
use Rattle.std.specs.Prelude.{map, string_bytes}
use Rattle.graphql_spec.specs.Shown.{Shown}
use Rattle.graphql_spec.specs.Resolvers.{Error}
use Rattle.graphql_spec.specs.Errors.{Listed}
use Rattle.juniper_syntax.specs.Positions.{view_position}
use Rattle.juniper_syntax.specs.ValueView.{view_value}
use Rattle.juniper_conversions.specs.SegmentView.{view_segment}
use Rattle.juniper_conversions.specs.declared.field_error.FieldError.{FieldError}
use Rattle.juniper_conversions.specs.declared.execution_error.ExecutionError.{ExecutionError}

-- a field error
abbrev pub view_error : {S : Type 0} → (S → Shown) → FieldError S → Error
view_error shown e = record { message = string_bytes e.message; extensions = view_value shown e.extensions }

-- an error as an answer lists it
abbrev pub view_listed : {S : Type 0} → (S → Shown) → ExecutionError S → Listed
view_listed shown e = record { path = map view_segment e.path.items; start = view_position e.location; error = view_error shown e.error }
