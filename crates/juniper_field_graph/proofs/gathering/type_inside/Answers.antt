use Rattle.std.proofs.Common.{rules}
use Rattle.graphql_spec.specs.Documents.{name_or}
use Rattle.juniper_field_graph.proofs.gathering.type_inside.Goals as goal

pub returns-in-Some : goal.returns-in-Some
unfolding name_or
returns-in-Some g c = search rules
