-- What the fields of the lexer show. Only private clauses cite it.
use Rattle.std.specs.Prelude.{ℕ, Bool, false, List, [], ◌∷◌, ◌+◌, ◌≤◌, ◌<◌, ◌^◌, ◌==◌, ◌&&◌, ◌||◌, nat_le, nat_lt}
use Rattle.graphql_spec.specs.Tokens.{quote}
use Rattle.graphql_spec.specs.Positions as spec
use Rattle.juniper_syntax.specs.Positions.{view_position}
use Rattle.juniper_tokens.specs.Lexing.{Front}
use Rattle.juniper_tokens.specs.declared.lexer.Spot.{Spot}
use Rattle.juniper_tokens.specs.declared.lexer.Lexer.TheInside.{Inside}

abbrev pub view_spot : Spot → spec.Spot
view_spot s = record { position = view_position s.position; after_return = s.after_return }

-- that many bytes more are counted without a wrap
pub record HasRoom (s : spec.Spot) (n : ℕ) : Type 0 where
  pub index : s.position.index + n < 2 ^ 64
  pub line : s.position.line ≤ s.position.index
  pub column : s.position.column ≤ s.position.index

abbrev pub view_front : Inside → Front
view_front l = record { at = view_spot l.spot; ahead = l.rest.now }

-- the byte is a character, and ends no line
unfoldable pub is_plain : ℕ → Bool
is_plain b = (b == 9) || (nat_le 32 b && nat_lt b 128)

-- a blank that ends no line
unfoldable pub is_space : ℕ → Bool
is_space b = (b == 9) || ((b == 32) || (b == 44))

-- the bytes begin as a string does
unfoldable pub begins_quoted : List ℕ → Bool
begins_quoted [] = false
begins_quoted (b ∷ bs) = b == quote
