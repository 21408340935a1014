use Rattle.std.proofs.Common.{rules}
use Rattle.juniper_meta.proofs.directive.DirectiveLocation.name.Goals as goal

pub returns-in-FieldDefinition : goal.returns-in-FieldDefinition
returns-in-FieldDefinition c = search rules
