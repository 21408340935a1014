-- What stands at the names of a registry: declarations, and placeholders of types that are not declared yet (3).
use Rattle.std.specs.Prelude.{◌≡◌, ◌⊎◌, ◌||◌, not, Bool, true, false, cond, List, [], ◌∷◌, map, Option, Some, None, OnOk, Result, Ok, Err, String, string_bytes}
use Rattle.std.specs.declared.alloc.Global.{Global}
use Rattle.std.specs.HashMap.{HashMap}
use Rattle.std.specs.Str.{bytes_eq}
use Rattle.graphql_spec.specs.Shown.{Name, Shown}
use Rattle.graphql_spec.specs.Schema.{Entry, placeholder}
use Rattle.graphql_spec.specs.Fields.{entry_in, or_else}
use Rattle.juniper_meta.specs.declared.meta.MetaType.{MetaType}
use Rattle.juniper_meta.specs.MetaView.{Meta, entry_at, unnamed_meta, is_placeholder, view_meta}
use Rattle.juniper_registry.specs.Referred.{referred}
use Rattle.juniper_registry.specs.declared.error.RegistryError.{RegistryError}
use Rattle.juniper_registry.specs.declared.error.RegistryError.TheVariants.{AlreadyRegistered, Memory}

-- what stands at each name
abbrev pub Table : Type 0
Table = Name → Option Entry

-- the entries of types by name
abbrev pub type_entries : {S H : Type 0} → (S → Shown) → HashMap (String Global) (MetaType S) H → List Entry
type_entries shown types = map (λ e. entry_at (string_bytes e.0) (view_meta shown e.1)) types.entries

-- the first entry of each name, where there is one
abbrev pub table : {S H : Type 0} → (S → Shown) → HashMap (String Global) (MetaType S) H → Table
table shown types = entry_in (type_entries shown types)

-- what stands at the name of a type that is not declared yet
abbrev pub awaited : Name → Entry
awaited n = entry_at n (unnamed_meta placeholder)

-- a declaration stands there
abbrev pub is_declared : Option Entry → Bool
is_declared None = false
is_declared (Some e) = not (is_placeholder e.shape)

-- its name is this one
abbrev pub is_named : Option Name → Name → Bool
is_named None k = false
is_named (Some n) k = bytes_eq n k

-- a declaration that stands there has the name that it stands at
abbrev pub is_own : Option Entry → Bool
is_own None = true
is_own (Some e) = is_placeholder e.shape || is_named e.name e.key

-- ## How a registry changes

-- with a placeholder at k, where nothing stood there
abbrev pub awaiting : Name → Table → Table
awaiting k old n = or_else (old n) (cond (bytes_eq n k) (Some (awaited n)) None)

-- with placeholders at these names, where nothing stood there
abbrev pub awaiting_each : List Name → Table → Table
awaiting_each [] old = old
awaiting_each (k ∷ ks) old = awaiting_each ks (awaiting k old)

-- with this declaration at k, in place of what stood there
abbrev pub declaring : Name → Meta → Table → Table
declaring k m old n = cond (bytes_eq n k) (Some (entry_at n m)) (old n)

-- at a name: nothing changed, or a placeholder is where nothing was
abbrev pub AddsAt : Option Entry → Option Entry → Name → Type 0
AddsAt old new n = (new ≡ old) ⊎ ((old ≡ None) × (new ≡ Some (awaited n)))

-- nothing changed, but that there may be placeholders at names where nothing was
pub record AddsPlaceholders (old new : Table) : Type 0 where
  pub at : (n : Name) → AddsAt (old n) (new n) n

-- a call adds at most placeholders, and so do this call and others of its kind before it
pub record KeepsAdding (old new : Table) : Type 0 where
  pub alone : AddsPlaceholders old new
  pub behind : (first : Table) → AddsPlaceholders first old → AddsPlaceholders first new

-- a call that answers leaves a placeholder at k, where nothing stood there, and changes nothing else
abbrev pub Awaits : {A E : Type 0} → Result A E → Name → Table → Table → Type 0
Awaits r k old new = OnOk r ((n : Name) → new n ≡ awaiting k old n)

-- the same of several names
abbrev pub AwaitsEach : {A E : Type 0} → Result A E → List Name → Table → Table → Type 0
AwaitsEach r ks old new = OnOk r ((n : Name) → new n ≡ awaiting_each ks old n)

-- this declaration has come to k, where none stood, and placeholders to the names that it refers to, where nothing stood
pub record IsRegistered (k : Name) (m : Meta) (old new : Table) : Type 0 where
  pub free : is_declared (old k) ≡ false
  pub held : (n : Name) → new n ≡ declaring k m (awaiting_each (referred m.shape) old) n

-- a declaration is registered, is refused since one stands there, or memory is refused
abbrev pub Registers : Result (Unit {0}) RegistryError → Name → Meta → Table → Table → Type 0
Registers (Ok x) k m old new = IsRegistered k m old new
Registers (Err AlreadyRegistered) k m old new = (is_declared (old k) ≡ true) × ((n : Name) → new n ≡ old n)
Registers (Err Memory) k m old new = (is_declared (old k) ≡ false) × AddsPlaceholders old new
