use Rattle.std.proofs.Common.{refl}
use Rattle.juniper_syntax.proofs.position.SourcePosition.new_origin.Goals as goal

pub returns : goal.returns
returns c = refl
