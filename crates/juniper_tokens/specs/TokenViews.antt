-- How the code's tokens are seen.
use Rattle.std.specs.Prelude.{map}
use Rattle.std.specs.Char.{encode_utf8}
use Rattle.graphql_spec.specs.Shown.{Text}
use Rattle.graphql_spec.specs.Tokens as spec
use Rattle.juniper_syntax.specs.Positions.{view_position, view_span}
use Rattle.juniper_tokens.specs.Lexing as read
use Rattle.juniper_tokens.specs.declared.token.ScalarToken.{ScalarToken}
use Rattle.juniper_tokens.specs.declared.token.ScalarToken.TheVariants as scalar
use Rattle.juniper_tokens.specs.declared.token.Lexeme.{Lexeme}
use Rattle.juniper_tokens.specs.declared.token.Lexeme.TheVariants as lexeme
use Rattle.juniper_tokens.specs.declared.token.Token.{Token}
use Rattle.juniper_tokens.specs.declared.token.Ending.{Ending}
use Rattle.juniper_tokens.specs.declared.token.Ending.TheVariants as ending
use Rattle.juniper_tokens.specs.declared.token.Lexed.{Lexed}
use Rattle.juniper_tokens.specs.declared.string.Part.{Part}
use Rattle.juniper_tokens.specs.declared.string.Part.TheVariants as part

abbrev pub view_scalar_token : ScalarToken → spec.Lexeme
view_scalar_token (scalar.String s) = spec.string s.now
view_scalar_token (scalar.Int s) = spec.int s.now

abbrev pub view_lexeme : Lexeme → spec.Lexeme
view_lexeme (lexeme.Mark m) = spec.mark m
view_lexeme (lexeme.Name s) = spec.name s.now
view_lexeme (lexeme.Scalar t) = view_scalar_token t

abbrev pub view_token : Token → spec.Token
view_token t = record { lexeme = view_lexeme t.lexeme; span = view_span t.span }

abbrev pub view_ending : Ending → read.Ending
view_ending (ending.Whole p) = read.whole (view_position p)
view_ending (ending.Fault p f) = read.fault (view_position p)

abbrev pub view_lexed : Lexed → read.Lexed
view_lexed l = record { tokens = map view_token l.tokens.items; ending = view_ending l.ending }

-- what the first characters of a string stand for
abbrev pub view_part : Part → Text
view_part (part.Plain s) = s.now
view_part (part.Escape c) = encode_utf8 c
