-- Which bytes of a text do not stand for themselves (2.9.4). Only private clauses cite it.
use Rattle.std.specs.Prelude.{ℕ, Bool, ◌||◌, ◌==◌, nat_lt}

-- a quote, a backslash or a control character
abbrev pub is_escaped : ℕ → Bool
is_escaped b = (b == 34 || b == 92) || nat_lt b 32
