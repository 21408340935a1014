use Rattle.std.proofs.Common.{sym}
use Rattle.juniper_merging.proofs.Distances.{found-there, none-found}
use Rattle.juniper_merging.proofs.Vertices.{found-at, missing-at}
use Rattle.juniper_merging.proofs.conflicts.clash_in.Goals as goal

pub returns-in-Some : goal.returns-in-Some
returns-in-Some c = sym (found-there c.args.row.now c.args.place c.in-Some.clash.now
    (found-at c.args.row.now c.args.place c.get.result c.in-Some.clash c.get.ensures.lookup.3 c.in-Some.is))

pub returns-in-None : goal.returns-in-None
returns-in-None c = sym (none-found c.args.row.now c.args.place (missing-at c.args.row.now c.args.place c.get.result c.get.ensures.lookup.3 c.in-None.is))
