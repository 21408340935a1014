use Rattle.std.proofs.Common.{refl}
use Rattle.juniper_meta.proofs.directive.DirectiveType.new.Goals as goal

pub returns : goal.returns
returns g c = refl
