use Rattle.std.proofs.Common.{subst}
use Rattle.juniper_merging.specs.Nodes.{Says}
use Rattle.juniper_merging.proofs.Placing.{held-at}
use Rattle.juniper_merging.proofs.Vertices.{found-at}
use Rattle.juniper_merging.proofs.known.clash_of.Goals as goal

pub returns-in-Some : goal.returns-in-Some
returns-in-Some c vs H told =
    let p = c.in_ok-place.place in
    let x = c.in-Some.clash.now in
    subst (λ l. Says vs l x) (held-at H c.args.placed.now.numbers.items p c.args.number c.in_ok-place.ensures)
    (told p x (found-at c.args.within.now p c.get.result c.in-Some.clash c.get.ensures.lookup.3 c.in-Some.is))
