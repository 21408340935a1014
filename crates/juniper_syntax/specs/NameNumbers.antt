-- Numbers of names.
use Rattle.std.specs.Prelude.{ℕ, ◌+◌, ◌*◌, ◌%◌, ◌^◌, List, [], ◌∷◌}

-- a number of a name, of which the bytes so far made this one
unfoldable pub number_from : ℕ → List ℕ → ℕ
number_from n [] = n
number_from n (b ∷ bs) = number_from ((n * 1099511628211 % 2 ^ 64 + b) % 2 ^ 64) bs

-- a number of a name: equal names have equal numbers
abbrev pub name_number : List ℕ → ℕ
name_number bs = number_from 0 bs
