use Rattle.juniper_endpoint.proofs.Leaving.{reads-leave}
use Rattle.juniper_endpoint.proofs.laws.reading_leaves.Goals as goal

pub returns : goal.returns
returns g c = λ S b a most before fields outcome line after replied. reads-leave S b a most before fields outcome line after replied
