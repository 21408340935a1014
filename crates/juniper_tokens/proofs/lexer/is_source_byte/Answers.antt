use Rattle.std.proofs.Common.{rules}
use Rattle.graphql_spec.specs.Tokens.{is_source_byte}
use Rattle.juniper_tokens.proofs.lexer.is_source_byte.Goals as goal

pub returns-else-b-eq9 : goal.returns-else-b-eq9
unfolding is_source_byte
returns-else-b-eq9 c = search rules
