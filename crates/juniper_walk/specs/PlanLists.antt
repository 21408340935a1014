-- The lists of a plan.
use Rattle.std.specs.Prelude.{nat_lt, ℕ, Bool, true, ◌&&◌, List, [], ◌∷◌, cond, Option, Some, None, string_bytes}
use Rattle.std.specs.Str.{bytes_eq}
use Rattle.graphql_spec.specs.Shown.{Name}
use Rattle.juniper_walk.specs.declared.plan.Below.{Below}
use Rattle.juniper_walk.specs.declared.plan.GroupRange.{GroupRange}

-- what was made for the nodes of an object type, if it was
unfoldable pub named_in : Name → List Below → Option GroupRange
named_in T [] = None
named_in T (b ∷ bs) = cond (bytes_eq (string_bytes b.concrete) T) (Some b.groups) (named_in T bs)

-- each of these numbers is less than the next, and the first is more than this one
unfoldable pub rises_from : ℕ → List ℕ → Bool
rises_from k [] = true
rises_from k (j ∷ js) = nat_lt k j && rises_from j js

-- each of these numbers is less than the next
unfoldable pub rises : List ℕ → Bool
rises [] = true
rises (k ∷ ks) = rises_from k ks
