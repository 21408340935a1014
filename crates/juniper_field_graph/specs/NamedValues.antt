-- How values with names are seen: fields of objects and arguments (2.6, 2.9.8).
use Rattle.std.specs.Prelude.{List, [], ◌∷◌}
use Rattle.graphql_spec.specs.Shown.{Name, Shown}
use Rattle.graphql_spec.specs.Documents.{Argument}
use Rattle.graphql_spec.specs.Inputs.{InputFields, no_fields, input_field}
use Rattle.juniper_syntax.specs.Positions.{view_span}
use Rattle.juniper_syntax.specs.declared.position.Span.{Span}
use Rattle.juniper_syntax.specs.declared.position.Spanning.{Spanning}
use Rattle.juniper_syntax.specs.InputView.{view_input}
use Rattle.juniper_syntax.specs.declared.input.InputValue.{InputValue}

-- named values, as an object's fields
unfoldable pub view_named : {N S : Type 0} → (N → Name) → (S → Shown) → List (Spanning N Span × Spanning (InputValue S) Span) → InputFields
view_named text shown [] = no_fields
view_named text shown (f ∷ fs) = input_field (text f.0.item) (view_span f.0.span) (view_input shown f.1.item) (view_span f.1.span) (view_named text shown fs)

-- arguments, as an object's fields
unfoldable pub as_fields : List Argument → InputFields
as_fields [] = no_fields
as_fields (a ∷ rest) = input_field a.name.item a.name.span a.value.item a.value.span (as_fields rest)
