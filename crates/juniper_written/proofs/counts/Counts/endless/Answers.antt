use Rattle.std.proofs.Common.{refl}
use Rattle.juniper_written.specs.Measures.{number, of_fields, of_levels}
use Rattle.juniper_written.proofs.counts.Counts.endless.Goals as goal

pub returns : goal.returns
unfolding number
returns c of_fields = refl
returns c of_levels = refl
