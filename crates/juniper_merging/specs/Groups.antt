-- Numbers in groups, each by a number.
use Rattle.std.specs.Prelude.{ℕ, List, [], Option, Some, None, Vec, nat_eq}
use Rattle.std.specs.HashMap.{HashMap, get_by}
use Rattle.std.specs.declared.alloc.Global.{Global}

-- the numbers, if any
unfoldable pub numbers_of : Option (Vec ℕ Global) → List ℕ
numbers_of None = []
numbers_of (Some v) = v.items

-- the numbers that a map has at a key
unfoldable pub group_in : {H : Type 0} → HashMap ℕ (Vec ℕ Global) H → ℕ → List ℕ
group_in m k = numbers_of (get_by (nat_eq k) m)
