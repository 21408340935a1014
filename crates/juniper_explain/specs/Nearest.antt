-- The nearest of some names, for those that are not known.
use Rattle.std.specs.Prelude.{ℕ, ◌+◌, ◌/◌, nat_lt, nat_eq, cond, length, List, [], ◌∷◌, Option, Some, None}
use Rattle.std.specs.Option.{option_or}
use Rattle.std.specs.Str.{chars}
use Rattle.strsim.specs.Edits.{levenshtein_row}
use Rattle.graphql_spec.specs.Shown.{Name}

-- how many characters have to be put in, left out or changed
abbrev pub distance : Name → Name → ℕ
distance n k = levenshtein_row nat_eq (chars n) (chars k) (length (chars k))

-- the first of the names that is nearest, of those that are nearer than the bound
unfoldable pub nearest : Name → ℕ → List Name → Option Name
nearest n bound [] = None
nearest n bound (k ∷ ks) = cond (nat_lt (distance n k) bound) (option_or (nearest n (distance n k) ks) (Some k)) (nearest n bound ks)

-- how near a name has to be: a third of it and one character may differ; nothing is near a name of more than 64 bytes
unfoldable pub bound_of : Name → ℕ
bound_of n = cond (nat_lt 64 (length n)) 0 (length n / 3 + 2)

-- the name that may have been meant
unfoldable pub suggested : Name → List Name → Option Name
suggested n ks = nearest n (bound_of n) ks
