use Rattle.std.proofs.Common.{◌∙◌}
use Rattle.juniper_written.specs.WrittenView.{has_name}
use Rattle.juniper_written.proofs.Sorted.{has-is}
use Rattle.juniper_written.proofs.name_set.NameSet.contains.Goals as goal

pub returns : goal.returns
unfolding has_name
returns c = c.contains.ensures ∙ has-is c.args.name.now c.args.self.now.sorted.keys
