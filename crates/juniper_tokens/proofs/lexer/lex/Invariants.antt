use Rattle.std.proofs.Common.{◌≡◌, length, map}
use Rattle.juniper_tokens.specs.Lexing.{behind, lex_from, lexed}
use Rattle.juniper_tokens.specs.TokenViews.{view_token}
use Rattle.juniper_tokens.proofs.lexer.lex.Given as goal

abbrev pub invariant-loop-lexer : goal.invariant-loop-lexer
invariant-loop-lexer l = behind (map view_token l.tokens.items) (lex_from l.lexer) ≡ lexed l.fn.text

abbrev pub decreases-loop-lexer : goal.decreases-loop-lexer
decreases-loop-lexer l = length l.lexer.ahead
