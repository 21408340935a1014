-- How the code's schemas are seen (3).
use Rattle.std.specs.Prelude.{◌≡◌, ◌&&◌, Bool, true, false, cond, List, map, Option, Some, None, option_map, String, string_bytes, codes}
use Rattle.std.specs.declared.alloc.Global.{Global}
use Rattle.std.specs.declared.cmp.PartialEq.{Ghosts as Equality}
use Rattle.std.specs.declared.fmt.Debug.{Ghosts as Shows}
use Rattle.std.specs.HashMap.{HashMap}
use Rattle.std.specs.Str.{bytes_eq}
use Rattle.graphql_spec.specs.Shown.{Name, Shown}
use Rattle.graphql_spec.specs.Schema.{Schema, Entry, scalar_type}
use Rattle.graphql_spec.specs.BuiltIns.{introspection_types}
use Rattle.graphql_spec.specs.Fields.{entry_in, or_else}
use Rattle.graphql_spec.specs.Executable.{names_differ}
use Rattle.juniper_syntax.specs.declared.scalar.ScalarValue.{Ghosts as Scalars}
use Rattle.juniper_meta.specs.declared.meta.MetaType.{MetaType}
use Rattle.juniper_meta.specs.MetaView.{Meta, entry_at, is_placeholder, view_meta}
use Rattle.juniper_schema.specs.declared.schema.SchemaType.{SchemaType}

-- the entries of types by name
abbrev pub view_entries : {S H : Type 0} → (S → Shown) → HashMap (String Global) (MetaType S) H → List Entry
view_entries shown types = map (λ e. entry_at (string_bytes e.0) (view_meta shown e.1)) types.entries

module _ {S : Type 0} {scalar : Scalars S} {equality : Equality S} {shows : Shows S} where
  abbrev pub view_schema : (S → Shown) → SchemaType S scalar equality shows → Schema
  view_schema shown s =
      record { entries = view_entries shown s.types; query = string_bytes s.query_name; mutation = option_map (λ n. string_bytes n) s.mutation_name }

-- what an entry says, apart from its key
abbrev pub meta_of : Entry → Meta
meta_of e = record { name = e.name; description = e.description; shape = e.shape }

-- what the entry of a name says
abbrev pub entry_meta : Schema → Name → Option Meta
entry_meta s n = option_map meta_of (entry_in s.entries n)

-- what the entry or the introspection type of a name says
abbrev pub meta_named : Schema → Name → Option Meta
meta_named s n = option_map meta_of (or_else (entry_in s.entries n) (entry_in introspection_types n))

-- ## The built-in scalars of a schema that is made (3.5)

-- a built-in scalar, which has no description
abbrev pub built_in : Name → Bool → Bool → Bool → Entry
built_in n int text boolean =
    record { key = n; name = Some n; description = None; shape = scalar_type (record { int = int; text = text; boolean = boolean }) None }

-- a placeholder stands there
abbrev pub awaits : Option Entry → Bool
awaits None = false
awaits (Some e) = is_placeholder e.shape

-- nothing is declared there: nothing stands there, or a placeholder
abbrev pub lacks : Option Entry → Bool
lacks None = true
lacks (Some e) = is_placeholder e.shape

-- what stands at a name, where this stood: `String` and `Boolean` are declared, `Int` and `ID` where they were asked for
abbrev pub with_built_ins : Name → Option Entry → Option Entry
with_built_ins n old = cond (bytes_eq n (codes "String") && lacks old) (Some (built_in (codes "String") false true false))
    (cond (bytes_eq n (codes "Boolean") && lacks old) (Some (built_in (codes "Boolean") false false true))
    (cond (bytes_eq n (codes "Int") && awaits old) (Some (built_in (codes "Int") true false false))
    (cond (bytes_eq n (codes "ID") && awaits old) (Some (built_in (codes "ID") true true false)) old)))

-- the entries of a schema that is made of these
pub record AreCompleted (old new : List Entry) : Type 0 where
  pub held : (n : Name) → entry_in new n ≡ with_built_ins n (entry_in old n)
  pub distinct : names_differ (map (λ e. e.key) new) ≡ true
