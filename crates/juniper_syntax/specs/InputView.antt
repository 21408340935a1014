-- How the code's input values are seen (2.9).
use Rattle.std.specs.Prelude.{List, [], ◌∷◌, map, String, string_bytes, option_map}
use Rattle.std.specs.declared.alloc.Global.{Global}
use Rattle.std.specs.HashMap.{HashMap, get_by_text}
use Rattle.graphql_spec.specs.Shown.{Shown}
use Rattle.graphql_spec.specs.Inputs as spec
use Rattle.graphql_spec.specs.Inputs.{Input, InputItems, InputFields, no_items, item, no_fields, input_field}
use Rattle.juniper_syntax.specs.declared.position.Span.{Span}
use Rattle.juniper_syntax.specs.declared.position.Spanning.{Spanning}
use Rattle.juniper_syntax.specs.declared.input.InputValue.{InputValue, fold-InputValue}
use Rattle.juniper_syntax.specs.declared.input.InputValue.TheOpen.{InputValue-F}
use Rattle.juniper_syntax.specs.Positions.{view_span}

abbrev pub items_of : List (Spanning Input Span) → InputItems
items_of [] = no_items
items_of (i ∷ is) = item i.item (view_span i.span) (items_of is)

abbrev pub fields_of : List (Spanning (String Global) Span × Spanning Input Span) → InputFields
fields_of [] = no_fields
fields_of (f ∷ fs) = input_field (string_bytes f.0.item) (view_span f.0.span) f.1.item (view_span f.1.span) (fields_of fs)

-- one level, with each value inside already seen
abbrev pub input_step : {S : Type 0} → (S → Shown) → InputValue-F S Input → Input
input_step shown InputValue-F.Null = spec.null
input_step shown (InputValue-F.Scalar s) = spec.scalar (shown s)
input_step shown (InputValue-F.Enum e) = spec.enumerated (string_bytes e)
input_step shown (InputValue-F.Variable x) = spec.variable (string_bytes x)
input_step shown (InputValue-F.List v) = spec.list (items_of v.items)
input_step shown (InputValue-F.Object v) = spec.object (fields_of v.items)

abbrev pub view_input : {S : Type 0} → (S → Shown) → InputValue S → Input
view_input {S} shown = fold-InputValue S Input (input_step shown)

abbrev pub at_item : {A B : Type 0} → (A → B) → Spanning A Span → Spanning B Span
at_item f x = record { item = f x.item; span = x.span }

-- the items of a list, and the fields of an object
abbrev pub view_items : {S : Type 0} → (S → Shown) → List (Spanning (InputValue S) Span) → InputItems
view_items shown vs = items_of (map (at_item (view_input shown)) vs)

abbrev pub view_fields : {S : Type 0} → (S → Shown) → List (Spanning (String Global) Span × Spanning (InputValue S) Span) → InputFields
view_fields shown vs = fields_of (map (λ m. (m.0, at_item (view_input shown) m.1)) vs)

-- the values of variables
abbrev pub view_variables : {S H : Type 0} → (S → Shown) → HashMap (String Global) (InputValue S) H → spec.Variables
view_variables shown m = λ name. option_map (view_input shown) (get_by_text m name)
