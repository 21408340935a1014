use Rattle.std.proofs.Common.{rules}
use Rattle.graphql_spec.specs.Shown.{shown_int}
use Rattle.juniper_syntax.proofs.scalar.DefaultScalarValueScalarValue.try_to_int.Goals as goal

pub returns-in-Int : goal.returns-in-Int
unfolding shown_int
returns-in-Int c = search rules
