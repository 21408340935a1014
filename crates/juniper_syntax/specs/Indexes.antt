-- Keys, and an index that says where each stands.
use Rattle.std.specs.Prelude.{◌≡◌, ◌<◌, ℕ, Bool, false, cond, List, String, Option, None, Some, slice_get, string_bytes}
use Rattle.std.specs.Global.{Global}
use Rattle.std.specs.List.{AllZip, position}
use Rattle.std.specs.BTreeMap.{btree_map_len, get, get_by_text}
use Rattle.std.specs.Ordering.{nat_cmp}
use Rattle.juniper_syntax.specs.FieldWords.{is_key}
use Rattle.juniper_syntax.specs.NameNumbers.{name_number}
use Rattle.juniper_syntax.specs.declared.places.Places.{Places}

-- it is this key
unfoldable pub says : Option (String Global) → List ℕ → Bool
says None key = false
says (Some name) key = is_key key name

-- this key stands at the place
abbrev pub stands_at : List (String Global) → ℕ → List ℕ → Bool
stands_at names place key = says (slice_get names place) key

-- the place of the first key of this number, where it is the key; else what is kept for the key itself
unfoldable pub chosen : List (String Global) → List ℕ → Option ℕ → Option ℕ → Option ℕ
chosen names key None tied = tied
chosen names key (Some place) tied = cond (stands_at names place key) (Some place) tied

-- the place that the index has for a key
abbrev pub place_in : Places → List (String Global) → List ℕ → Option ℕ
place_in p names key = chosen names key (get nat_cmp p.by_number (name_number key)) (get_by_text p.tied key)

-- it has the place of each of these keys, and of no other
unfoldable pub Shows : Places → List (String Global) → Type 0
Shows p names = (key : List ℕ) → place_in p names key ≡ position (is_key key) names

-- where it holds anything, it is the index of these keys
unfoldable pub IsIndex : Places → List (String Global) → Type 0
IsIndex p names = 0 < btree_map_len p.by_number → Shows p names

-- key by key they say the same
abbrev pub AreSame : List (String Global) → List (String Global) → Type 0
AreSame = AllZip (λ s t. string_bytes t ≡ string_bytes s)
