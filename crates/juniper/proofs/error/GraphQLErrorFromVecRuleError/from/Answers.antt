use Rattle.std.proofs.Common.{refl}
use Rattle.juniper.proofs.error.GraphQLErrorFromVecRuleError.from.Goals as goal

pub returns : goal.returns
returns c = refl
