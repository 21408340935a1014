-- References to types with what they lead to (3.4.1).
use Rattle.std.specs.Prelude.{ℕ, Bool, cond, Option}
use Rattle.graphql_spec.specs.Shown.{Shown}
use Rattle.graphql_spec.specs.Types.{TypeRef, named, list_of}
use Rattle.juniper_meta.specs.MetaView.{Meta, view_meta}
use Rattle.juniper_schema.specs.declared.type_type.TypeType.{TypeType, fold-TypeType}
use Rattle.juniper_schema.specs.declared.type_type.TypeType.TheOpen.{TypeType-F}

-- a declaration in lists, each with its expected number of items, and non-nulls
pub data Made : Type 0 where
  concrete : Meta → Made
  list : Option ℕ → Made → Made
  non_null : Made → Made

-- one level, with the type inside already seen
abbrev pub made_step : {S : Type 0} → (S → Shown) → TypeType-F S Made → Made
made_step shown (TypeType-F.Concrete m) = concrete (view_meta shown m.now)
made_step shown (TypeType-F.List t size) = list size t.value
made_step shown (TypeType-F.NonNull t) = non_null t.value

abbrev pub view_made : {S : Type 0} → (S → Shown) → TypeType S → Made
view_made {S} shown = fold-TypeType S Made (made_step shown)

-- non-null or not
abbrev pub required_if : Bool → Made → Made
required_if r t = cond r (non_null t) t

-- a declaration in the lists and non-nulls of a reference
unfoldable pub around : Meta → TypeRef → Made
around m (named r n) = required_if r (concrete m)
around m (list_of r size t) = required_if r (list size (around m t))
