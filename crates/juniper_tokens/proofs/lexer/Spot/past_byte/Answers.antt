use Rattle.std.proofs.Common.{rules}
use Rattle.graphql_spec.specs.Positions.{past_byte, next_line, continues_character}
use Rattle.juniper_tokens.proofs.lexer.Spot.past_byte.Goals as goal

pub returns : goal.returns
unfolding past_byte next_line continues_character
returns c = search rules
