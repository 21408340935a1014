use Rattle.std.proofs.Common.{ap, sym}
use Rattle.juniper_registry.specs.Kinds.{view_kind}
use Rattle.juniper_registry.proofs.type_kind.TypeKind.name.Goals as goal

pub returns-in-InputObject : goal.returns-in-InputObject
returns-in-InputObject c = sym (ap view_kind c.in-InputObject.is)
