use Rattle.std.proofs.Common.{not, ap, ◌∙◌}
use Rattle.juniper_written.proofs.Looking.{found-by}
use Rattle.juniper_written.proofs.rules.is_unknown.Goals as goal

pub returns : goal.returns
returns c = ap not (c.contains.ensures ∙ found-by c.args.spreads.now c.args.name.now)
