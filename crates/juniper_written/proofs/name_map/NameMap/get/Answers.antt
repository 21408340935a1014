use Rattle.std.proofs.Common.{◌∙◌}
use Rattle.juniper_written.specs.WrittenView.{named}
use Rattle.juniper_written.proofs.Sorted.{found-is}
use Rattle.juniper_written.proofs.name_map.NameMap.get.Goals as goal

pub returns : goal.returns
unfolding named
returns g c = c.get.ensures.value ∙ found-is c.args.name.now c.args.self.now.sorted.entries
