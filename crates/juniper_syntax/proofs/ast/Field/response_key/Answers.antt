use Rattle.std.proofs.Common.{rules}
use Rattle.graphql_spec.specs.Documents.{name_or, response_key}
use Rattle.juniper_syntax.proofs.ast.Field.response_key.Goals as goal

pub returns-in-Some : goal.returns-in-Some
unfolding response_key name_or
returns-in-Some g c = search rules
