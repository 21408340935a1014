use Rattle.std.proofs.Common.{refl}
use Rattle.juniper_syntax.proofs.position.SourcePosition.column.Goals as goal

pub returns : goal.returns
returns c = refl
