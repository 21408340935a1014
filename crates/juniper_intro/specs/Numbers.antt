-- The names of a schema's types with their numbers (4.2.1).
use Rattle.std.specs.Prelude.{ℕ, ◌≡◌, ◌++◌, List, [], ◌∷◌, codes, map, unwrap_or, IsTrue, get_or, String}
use Rattle.std.specs.HashMap.{HashMap, get_by_text}
use Rattle.std.specs.List.{list_any}
use Rattle.std.specs.Str.{bytes_eq}
use Rattle.std.specs.declared.alloc.Global.{Global}
use Rattle.graphql_spec.specs.Schema.{Schema}
use Rattle.graphql_spec.specs.Shown.{Name}
use Rattle.graphql_spec.specs.TypeList.{type_list}

-- the names of what stands for no mutation and no subscription, which are not listed
abbrev pub hidden_names : List Name
hidden_names = codes "_EmptyMutation" ∷ codes "_EmptySubscription" ∷ []

-- the names of the listed types in their order, and then those two
unfoldable pub all_names : Schema → List Name
all_names s = map (λ e. e.key) (type_list s) ++ hidden_names

-- the number that a map has for a name
abbrev pub number_in : {H : Type 0} → HashMap (String Global) ℕ H → Name → ℕ
number_in numbers n = unwrap_or (get_by_text numbers n) 0

-- each of some names stands at its number in a list
abbrev pub StandAt : {H : Type 0} → List Name → List Name → HashMap (String Global) ℕ H → Type 0
StandAt some names numbers = (n : Name) → IsTrue (list_any (bytes_eq n) some) → get_or names (number_in numbers n) [] ≡ n
