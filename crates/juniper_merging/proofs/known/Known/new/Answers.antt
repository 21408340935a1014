use Rattle.std.proofs.Common.{subst, sym}
use Rattle.juniper_merging.specs.Nodes.{AreNodes}
use Rattle.juniper_merging.specs.Numbered.{ArePlaced, AreTold, held_by}
use Rattle.juniper_merging.specs.Questions.{fields_of}
use Rattle.juniper_merging.specs.Tables.{table_of}
use Rattle.juniper_merging.proofs.Placing.{nodes-placed}
use Rattle.juniper_merging.proofs.known.Known.new.Goals as goal

pub returns : goal.returns
returns c there =
    let g = c.args.graph.now in
    let vs = fields_of g in
    let t = table_of g.sets.now in
    let u = c.in_ok-uniting.uniting in
    let numbers = c.in_ok-placed.placed.numbers.items in
    let nodes = c.in_ok-placed.placed.nodes.items in
    let h = c.in_ok-uniting.ensures there in
    let placed : ArePlaced u.united.items numbers nodes = subst (λ l. ArePlaced l numbers nodes) c.deref.ensures.value c.in_ok-placed.ensures in
    let told : AreTold vs h.0 numbers c.in_ok-within.within.items =
    c.in_ok-within.ensures t (held_by h.0 numbers) (subst (AreNodes vs (held_by h.0 numbers)) (sym c.deref-2.ensures.value) (nodes-placed h.0 numbers vs t u
    nodes h.1 placed)) in
    c.in_ok-judged.ensures vs t h.0 h.1 (subst (AreTold vs h.0 numbers) (sym c.deref-3.ensures.value) told)
