-- The fields that sets hold which are made of fields and of other sets.
use Rattle.std.specs.Prelude.{ℕ, List, [], ◌∷◌, ◌++◌, Option, Some, None}
use Rattle.std.specs.List.{slice_get}
use Rattle.juniper_merging.specs.declared.sets.FieldSet.{FieldSet}

-- the numbers, if any
unfoldable pub list_or_none : Option (List ℕ) → List ℕ
list_or_none None = []
list_or_none (Some l) = l

-- what a table has at a number
unfoldable pub set_at : List (List ℕ) → ℕ → List ℕ
set_at t i = list_or_none (slice_get t i)

-- what is selected, if anything is
unfoldable pub below_in : List (List ℕ) → Option ℕ → List ℕ
below_in t None = []
below_in t (Some i) = set_at t i

-- what several sets hold, one behind the other
unfoldable pub joined : List (List ℕ) → List ℕ → List ℕ
joined t [] = []
joined t (i ∷ is) = set_at t i ++ joined t is

-- the fields of a set, by those of the sets before it
unfoldable pub set_of : List (List ℕ) → FieldSet → List ℕ
set_of t s = s.fields.items ++ joined t s.parts.items

-- the fields of each set, behind a table of those before
unfoldable pub table_from : List (List ℕ) → List FieldSet → List (List ℕ)
table_from t [] = t
table_from t (x ∷ xs) = table_from (t ++ set_of t x ∷ []) xs

-- the fields of each set
unfoldable pub table_of : List FieldSet → List (List ℕ)
table_of xs = table_from [] xs
