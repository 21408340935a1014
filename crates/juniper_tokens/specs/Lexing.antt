-- Reading tokens as a function, step by step. `LexLaws` proves that it reads just the tokens that the Specification gives a text.
use Rattle.std.specs.Prelude.{ℕ, zero, suc, Bool, true, false, ◌≡◌, ◌≢◌, ◌<◌, ◌+◌, ◌==◌, ◌&&◌, ◌||◌, cond, nat_eq, take, drop, length, List, [], ◌∷◌, ◌++◌}
use Rattle.std.specs.List.{prefix_len, starts_with}
use Rattle.std.specs.Char.{is_ascii_digit}
use Rattle.graphql_spec.specs.Positions.{Position, Spot, Span, beginning, walk}
use Rattle.graphql_spec.specs.Tokens.{Lexeme, mark, name, int, string, Token, quote, is_mark, dots, starts_name, continues_name, is_int, continues_int}
use Rattle.graphql_spec.specs.Tokens.{ends_before, is_source_byte, is_blank, is_nil}
use Rattle.juniper_tokens.specs.Strings.{string_len, without_quotes}

-- where a reader of bytes stands, and the bytes left
pub record Front : Type 0 where
  pub at : Spot
  pub ahead : List ℕ

-- past that many bytes
abbrev pub past : ℕ → Front → Front
past n s = record { at = walk s.at (take n s.ahead); ahead = drop n s.ahead }

-- U+FEFF in UTF-8, and the punctuator of three dots
abbrev pub order_mark : List ℕ
order_mark = 239 ∷ 187 ∷ 191 ∷ []

abbrev pub three_dots : List ℕ
three_dots = dots ∷ dots ∷ dots ∷ []

-- how many bytes the first thing that is ignored has, and 0 where none stands at the front: a comment goes on to its line's end
unfoldable pub ignored_len : List ℕ → ℕ
ignored_len [] = 0
ignored_len (b ∷ bs) = cond (is_blank b) 1 (cond (b == 35) (prefix_len is_source_byte bs + 1) (cond (starts_with nat_eq (b ∷ bs) order_mark) 3 0))

-- how many bytes the number at the front has: perhaps `-`, and digits
unfoldable pub number_len : List ℕ → ℕ
number_len [] = 0
number_len (b ∷ bs) = cond (b == 45) (prefix_len is_ascii_digit bs + 1) (prefix_len is_ascii_digit (b ∷ bs))

-- how many bytes the Int at the front has, and 0 where none stands there
unfoldable pub int_len : List ℕ → ℕ
int_len bs = cond (is_int (take (number_len bs) bs) && ends_before continues_int (drop (number_len bs) bs)) (number_len bs) 0

-- how many bytes the token at the front has, and 0 where none stands there
unfoldable pub lexeme_len : List ℕ → ℕ
lexeme_len [] = 0
lexeme_len (b ∷ bs) = cond (is_mark b) 1 (cond (starts_name b) (prefix_len continues_name (b ∷ bs))
    (cond (starts_with nat_eq (b ∷ bs) three_dots) 3 (cond (b == quote) (string_len (b ∷ bs)) (int_len (b ∷ bs)))))

-- `-` or a digit
unfoldable pub starts_int : ℕ → Bool
starts_int b = (b == 45) || is_ascii_digit b

-- the token that is written so
unfoldable pub lexeme_of : List ℕ → Lexeme
lexeme_of [] = name []
lexeme_of (b ∷ bs) = cond (starts_name b) (name (b ∷ bs)) (cond (starts_int b) (int (b ∷ bs)) (cond (b == quote) (string (without_quotes (b ∷ bs))) (mark b)))

-- how the tokens ended, and where: the text is read to its end, or there stands what is no token
pub data Ending : Type 0 where
  whole : Position → Ending
  fault : Position → Ending

abbrev pub is_whole : Ending → Bool
is_whole (whole p) = true
is_whole (fault p) = false

pub record Lexed : Type 0 where
  pub tokens : List Token
  pub ending : Ending

abbrev pub with_token : Token → Lexed → Lexed
with_token t l = record { tokens = t ∷ l.tokens; ending = l.ending }

abbrev pub span_past : ℕ → Front → Span
span_past n s = record { start = s.at.position; end = (past n s).at.position }

-- the token at the front, of so many bytes
abbrev pub token_of : ℕ → Front → Token
token_of n s = record { lexeme = lexeme_of (take n s.ahead); span = span_past n s }

abbrev pub at_end : Front → Lexed
at_end s = record { tokens = []; ending = whole s.at.position }

abbrev pub at_fault : Front → Lexed
at_fault s = record { tokens = []; ending = fault s.at.position }

-- one step, and the rest
abbrev pub lex_step : (Front → Lexed) → Front → Lexed
lex_step rest s = cond (is_nil s.ahead) (at_end s) (cond (ignored_len s.ahead == 0)
    (cond (lexeme_len s.ahead == 0) (at_fault s) (with_token (token_of (lexeme_len s.ahead) s) (rest (past (lexeme_len s.ahead) s))))
    (rest (past (ignored_len s.ahead) s)))

-- the number bounds the steps, each of which takes a byte
unfoldable pub lex : ℕ → Front → Lexed
lex zero s = at_end s
lex (suc k) s = lex_step (lex k) s

unfoldable pub lex_from : Front → Lexed
lex_from s = lex (length s.ahead) s

-- the tokens of a text
abbrev pub lexed : List ℕ → Lexed
lexed bytes = lex_from (record { at = beginning; ahead = bytes })

-- what is found, before what is still to be read
abbrev pub behind : List Token → Lexed → Lexed
behind found l = record { tokens = found ++ l.tokens; ending = l.ending }

-- the token is what stands at the front, and the reader then stands past it
abbrev pub IsRead : Token → Front → Front → Type 0
IsRead t s u = (ignored_len s.ahead ≡ 0) × (lexeme_len s.ahead ≢ 0) × (t ≡ token_of (lexeme_len s.ahead) s) × (u ≡ past (lexeme_len s.ahead) s)

-- less is left, and of it the same is read
abbrev pub IsSkipped : Front → Front → Type 0
IsSkipped s u = (length u.ahead < length s.ahead) × (lex_from u ≡ lex_from s)
