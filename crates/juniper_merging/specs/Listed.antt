-- Lists of things, each at a number.
use Rattle.std.specs.Prelude.{ℕ, List, [], ◌∷◌, ◌++◌, ◌≡◌, Option, Some, None, Vec, cond, nat_eq}
use Rattle.std.specs.List.{slice_get}
use Rattle.std.specs.declared.alloc.Global.{Global}

-- the things, if any
unfoldable pub items_of : {A : Type 0} → Option (Vec A Global) → List A
items_of None = []
items_of (Some v) = v.items

-- what is listed at a number
unfoldable pub listed : {A : Type 0} → List (Vec A Global) → ℕ → List A
listed ls i = items_of (slice_get ls i)

-- a thing is listed at a place, behind what is listed there
abbrev pub IsListedMore : {A : Type 0} → List (Vec A Global) → List (Vec A Global) → ℕ → A → Type 0
IsListedMore {A} old new place x = (i : ℕ) → listed new i ≡ listed old i ++ cond (nat_eq place i) (x ∷ []) []
