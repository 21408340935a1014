use Rattle.std.proofs.Common.{ap, is_some, ◌∙◌}
use Rattle.juniper_written.specs.WrittenView.{named}
use Rattle.juniper_written.proofs.Sorted.{found-is}
use Rattle.juniper_written.proofs.name_map.NameMap.contains.Goals as goal

pub returns : goal.returns
unfolding named
returns g c = c.contains_key.ensures ∙ ap is_some (found-is c.args.name.now c.args.self.now.sorted.entries)
