-- When two input values are written the same, at the same places (this project's own).
use Rattle.std.specs.Prelude.{Bool, true, false, ◌&&◌}
use Rattle.std.specs.Str.{bytes_eq}
use Rattle.graphql_spec.specs.Shown.{same_shown}
use Rattle.graphql_spec.specs.Positions.{Span, Spanned, same_position}
use Rattle.graphql_spec.specs.Documents.{Word}
use Rattle.graphql_spec.specs.Inputs.{Input, InputItems, InputFields, null, scalar, enumerated, variable, list, object, no_items, item, no_fields, input_field}

-- from the same place to the same place
unfoldable pub same_span : Span → Span → Bool
same_span s t = same_position s.start t.start && same_position s.end t.end

-- the same name, at the same place
unfoldable pub same_word : Word → Word → Bool
same_word v w = bytes_eq v.item w.item && same_span v.span w.span

-- fields of the same name, at the same place, whose values stand at the same place
unfoldable pub same_field_head : Word × Spanned Input → Word × Spanned Input → Bool
same_field_head f g = same_word f.0 g.0 && same_span f.1.span g.1.span

-- scalars show the same, lists are compared item by item, and objects field by field in their order
unfoldable mutual
  pub same_input : Input → Input → Bool
  same_input null null = true
  same_input (scalar s) (scalar t) = same_shown s t
  same_input (enumerated e) (enumerated f) = bytes_eq e f
  same_input (variable x) (variable y) = bytes_eq x y
  same_input (list is) (list js) = same_input_items is js
  same_input (object fs) (object gs) = same_input_fields fs gs
  same_input _ _ = false

  -- item by item, each at its place
  pub same_input_items : InputItems → InputItems → Bool
  same_input_items no_items no_items = true
  same_input_items (item u u_at us) (item v v_at vs) = same_span u_at v_at && (same_input u v && same_input_items us vs)
  same_input_items _ _ = false

  -- field by field, each name and each value at its place
  pub same_input_fields : InputFields → InputFields → Bool
  same_input_fields no_fields no_fields = true
  same_input_fields (input_field k k_at u u_at us) (input_field l l_at v v_at vs) =
      ((bytes_eq k l && same_span k_at l_at) && same_span u_at v_at) && (same_input u v && same_input_fields us vs)
  same_input_fields _ _ = false
