use Rattle.std.proofs.Common.{rules}
use Rattle.graphql_spec.specs.Fields.{is_named_subtype}
use Rattle.juniper_schema.proofs.schema.SchemaType.is_named_subtype.Goals as goal

pub returns-then-lists_interface : goal.returns-then-lists_interface
unfolding is_named_subtype
returns-then-lists_interface g c = search rules

pub returns-else-lists_interface : goal.returns-else-lists_interface
unfolding is_named_subtype
returns-else-lists_interface g c = search rules
