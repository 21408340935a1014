-- How the code's values are seen (7.1).
use Rattle.std.specs.Prelude.{List, [], ◌∷◌, map, String, string_bytes}
use Rattle.std.specs.declared.alloc.Global.{Global}
use Rattle.graphql_spec.specs.Shown.{Shown}
use Rattle.graphql_spec.specs.Values as spec
use Rattle.graphql_spec.specs.Values.{Values, Entries, no_items, item, no_entries, entry}
use Rattle.juniper_syntax.specs.declared.value.Value.{Value, fold-Value}
use Rattle.juniper_syntax.specs.declared.value.Object.{Object, fold-Object, Object-F}
use Rattle.juniper_syntax.specs.declared.value.Value.TheOpen.{Value-F}

abbrev pub values_of : List spec.Value → Values
values_of [] = no_items
values_of (v ∷ vs) = item v (values_of vs)

abbrev pub entries_of : List (String Global × spec.Value) → Entries
entries_of [] = no_entries
entries_of (e ∷ es) = entry (string_bytes e.0) e.1 (entries_of es)

-- one level, with each value inside already seen
abbrev pub value_step : {S : Type 0} → (S → Shown) → Value-F S spec.Value Entries → spec.Value
value_step shown Value-F.Null = spec.null
value_step shown (Value-F.Scalar s) = spec.scalar (shown s)
value_step shown (Value-F.List v) = spec.list (values_of v.items)
value_step shown (Value-F.Object es) = spec.object es

abbrev pub object_step : {S : Type 0} → Object-F S spec.Value Entries → Entries
object_step o = entries_of o.fields

abbrev pub view_value : {S : Type 0} → (S → Shown) → Value S → spec.Value
view_value {S} shown = fold-Value S spec.Value Entries (value_step shown) (object_step {S = S})

abbrev pub view_object : {S : Type 0} → (S → Shown) → Object S → Entries
view_object {S} shown = fold-Object S spec.Value Entries (value_step shown) (object_step {S = S})

-- the items of a list, and the keys of an object with their values
abbrev pub view_values : {S : Type 0} → (S → Shown) → List (Value S) → Values
view_values shown vs = values_of (map (view_value shown) vs)

abbrev pub view_entries : {S : Type 0} → (S → Shown) → List (String Global × Value S) → Entries
view_entries shown es = entries_of (map (λ e. (e.0, view_value shown e.1)) es)
