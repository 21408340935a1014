use Rattle.std.proofs.Common.{ap, sym}
use Rattle.juniper_written.specs.WrittenView.{named}
use Rattle.juniper_written.specs.SpreadsView.{rank_of}
use Rattle.juniper_written.proofs.Looking.{got, got-none}
use Rattle.juniper_written.proofs.groups.rank.Goals as goal

pub returns-in-Some : goal.returns-in-Some
unfolding rank_of
returns-in-Some c = ap rank_of (sym (got c.get.result (named c.args.groups.now c.args.name.now) c.in-Some.root c.get.ensures c.in-Some.is))

pub returns-in-None : goal.returns-in-None
unfolding rank_of
returns-in-None c = ap rank_of (sym (got-none c.get.result (named c.args.groups.now c.args.name.now) c.get.ensures c.in-None.is))
