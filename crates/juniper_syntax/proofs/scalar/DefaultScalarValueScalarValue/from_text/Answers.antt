use Rattle.std.proofs.Common.{refl}
use Rattle.juniper_syntax.proofs.scalar.DefaultScalarValueScalarValue.from_text.Goals as goal

pub returns : goal.returns
returns c = refl
