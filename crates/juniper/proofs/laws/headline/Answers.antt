use Rattle.juniper.proofs.Headlines.{headline-holds}
use Rattle.juniper.proofs.laws.headline.Goals as goal

pub returns : goal.returns
returns g c = λ S q before r after is. headline-holds S q before r after is
