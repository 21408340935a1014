-- Values that mean the same, where no object has two fields of one key: objects by their keys, whatever the order (3.10).
use Rattle.std.specs.Prelude.{Bool, true, false, ◌&&◌, cond, Option, Some, None}
use Rattle.std.specs.Str.{bytes_eq}
use Rattle.graphql_spec.specs.Shown.{Name, same_shown}
use Rattle.graphql_spec.specs.Inputs.{Input, null, scalar, enumerated, variable, list, object, InputItems, no_items, item, InputFields, no_fields, input_field}
use Rattle.graphql_spec.specs.Fits.{has_field}

-- the value of the first field of a key
unfoldable pub field_at : InputFields → Name → Option Input
field_at no_fields k = None
field_at (input_field l l_at v v_at rest) k = cond (bytes_eq k l) (Some v) (field_at rest k)

-- each key of the first is one of the second
unfoldable pub all_keyed : InputFields → InputFields → Bool
all_keyed no_fields gs = true
all_keyed (input_field k k_at v v_at rest) gs = has_field k gs && all_keyed rest gs

-- there is one, and it passes the test
unfoldable pub passes : (Input → Bool) → Option Input → Bool
passes test None = false
passes test (Some v) = test v

unfoldable mutual
  pub same_value : Input → Input → Bool
  same_value null null = true
  same_value (scalar x) (scalar y) = same_shown x y
  same_value (enumerated e) (enumerated f) = bytes_eq e f
  same_value (variable x) (variable y) = bytes_eq x y
  same_value (list is) (list js) = same_items is js
  same_value (object fs) (object gs) = same_fields fs gs && all_keyed gs fs
  same_value _ _ = false

  -- item by item
  pub same_items : InputItems → InputItems → Bool
  same_items no_items no_items = true
  same_items (item v at is) (item w at' js) = same_value v w && same_items is js
  same_items _ _ = false

  -- each field of the first has the same value in the second
  pub same_fields : InputFields → InputFields → Bool
  same_fields no_fields gs = true
  same_fields (input_field k k_at v v_at rest) gs = passes (λ w. same_value v w) (field_at gs k) && same_fields rest gs
