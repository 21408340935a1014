-- Words on a value that may be left out, or null as it is written (2.9.5).
use Rattle.std.specs.Prelude.{◌≡◌, Option, Some, None, IsSomeAnd}
use Rattle.juniper_conversions.specs.declared.nullable.Nullable.{Nullable}
use Rattle.juniper_conversions.specs.declared.nullable.Nullable.TheVariants as nullable

-- the value, where there is one
abbrev pub some : {T : Type 0} → Nullable T → Option T
some nullable.ImplicitNull = None
some nullable.ExplicitNull = None
some (nullable.Some x) = Some x

-- nothing where nothing was written; else what was written, the null as `None`
abbrev pub explicit : {T : Type 0} → Nullable T → Option (Option T)
explicit nullable.ImplicitNull = None
explicit nullable.ExplicitNull = Some None
explicit (nullable.Some x) = Some (Some x)

-- the same case, with f of its value
abbrev pub map_nullable : {T U : Type 0} → (T → U) → Nullable T → Nullable U
map_nullable f nullable.ImplicitNull = nullable.ImplicitNull
map_nullable f nullable.ExplicitNull = nullable.ExplicitNull
map_nullable f (nullable.Some x) = nullable.Some (f x)

-- the same case, and P relates the two values
abbrev pub SameCase : {T U : Type 0} → (T → U → Type 0) → Nullable T → Nullable U → Type 0
SameCase P nullable.ImplicitNull n = n ≡ nullable.ImplicitNull
SameCase P nullable.ExplicitNull n = n ≡ nullable.ExplicitNull
SameCase P (nullable.Some x) n = IsSomeAnd (some n) (P x)
