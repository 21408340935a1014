-- Reading a string's characters as functions, step by step (2.9.4). Only private clauses cite it.
use Rattle.std.specs.Prelude.{ℕ, Bool, false, not, ◌+◌, ◌-◌, ◌&&◌, ◌||◌, ◌==◌, nat_eq, cond, take, drop, length, [], ◌∷◌, ◌++◌, Option, Some, None}
use Rattle.std.specs.List.{prefix_len, starts_with}
use Rattle.graphql_spec.specs.Shown.{Text}
use Rattle.graphql_spec.specs.Tokens.{Mode, characters, after_backslash, hex_digits, read_byte, is_source_byte, quote}

abbrev pub backslash : ℕ
backslash = 92

-- a byte that stands for itself
unfoldable pub is_plain : ℕ → Bool
is_plain b = is_source_byte b && not ((b == quote) || (b == backslash))

-- a text, put before what is read next, and what is left then
abbrev pub join : Text → Option (Text × Text) → Option (Text × Text)
join s None = None
join s (Some q) = Some (s ++ q.0, q.1)

-- what an escape stands for, from its middle, and what is left then
unfoldable pub escape_from : Mode → Text → Option (Text × Text)
escape_from characters bs = Some ([], bs)
escape_from after_backslash [] = None
escape_from (hex_digits k n) [] = None
escape_from m (b ∷ bs) = elim (read_byte m b) [ None ↦ None | Some p ↦ join p.1 (escape_from p.0 bs) ]

-- what the escape at the front stands for, and what is left then
unfoldable pub escape : Text → Option (Text × Text)
escape [] = None
escape (b ∷ bs) = cond (b == backslash) (escape_from after_backslash bs) None

-- what the first characters stand for, which are all that stand for themselves or one escape, and what is left then
unfoldable pub first_part : Text → Option (Text × Text)
first_part bs = cond (prefix_len is_plain bs == 0) (escape bs) (Some (take (prefix_len is_plain bs) bs, drop (prefix_len is_plain bs) bs))

-- ---- where a string ends

abbrev pub three_quotes : Text
three_quotes = quote ∷ quote ∷ quote ∷ []

-- what stands behind the quote at the front
unfoldable pub behind_quote : Text → Option Text
behind_quote [] = None
behind_quote (b ∷ bs) = cond (b == quote) (Some bs) None

-- a quote ends a string where a character may begin
abbrev pub closes : Mode → ℕ → Bool
closes characters b = b == quote
closes after_backslash b = false
closes (hex_digits k n) b = false

-- what stands from the quote on that ends the string, where all before it is a string's
unfoldable pub closing : Mode → Text → Option Text
closing m [] = None
closing m (b ∷ bs) = cond (closes m b) (Some (b ∷ bs)) (elim (read_byte m b) [ None ↦ None | Some p ↦ closing p.0 bs ])

-- the same, from before the quote that begins it
abbrev pub closing_behind : Option Text → Option Text
closing_behind None = None
closing_behind (Some bs) = closing characters bs

-- how many bytes stand up to the quote that ends the string, and with it
abbrev pub len_to : ℕ → Option Text → ℕ
len_to n None = 0
len_to n (Some rest) = (n - length rest) + 1

-- how many bytes the string token at the front has, and 0 where none stands there: three quotes begin none
unfoldable pub string_len : Text → ℕ
string_len bs = cond (starts_with nat_eq bs three_quotes) 0 (len_to (length bs) (closing_behind (behind_quote bs)))

-- without the quote at the end
unfoldable pub without_last_quote : Text → Text
without_last_quote [] = []
without_last_quote (b ∷ []) = cond (b == quote) [] (b ∷ [])
without_last_quote (b ∷ c ∷ cs) = b ∷ without_last_quote (c ∷ cs)

abbrev pub without_quotes_from : Text → Option Text → Text
without_quotes_from word None = word
without_quotes_from word (Some rest) = without_last_quote rest

-- what stands between the quotes
unfoldable pub without_quotes : Text → Text
without_quotes word = without_quotes_from word (behind_quote word)
