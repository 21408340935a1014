-- The numbers of the program's words.
use Rattle.std.specs.Prelude.{◌<◌, ◌≤◌, ◌^◌, ℕ}
use Rattle.std.specs.Str.Parse.{IsNumeral, digits_value, without_leading_plus}
use Rattle.graphql_spec.specs.Shown.{Text}

-- the number that a word writes in decimal digits, before which a plus may stand
abbrev pub written : Text → ℕ
written w = digits_value 10 (without_leading_plus w)

-- a word that writes a number above 0 that 64 bits hold
abbrev pub IsNumber : Text → Type 0
IsNumber w = IsNumeral 10 (without_leading_plus w) × (written w < 2 ^ 64) × (0 < written w)

-- a number of fields and a depth within a size's bounds
abbrev pub IsSize : ℕ → ℕ → Type 0
IsSize fields depth = (3 ≤ fields) × (1 ≤ depth) × (depth ≤ 250)
