use Rattle.std.proofs.Common.{◌∙◌, ap, sym, arith, Some, length, ◌-◌}
use Rattle.std.proofs.lemmas.Option.{slice_get-get_or}
use Rattle.juniper_merging.proofs.Numbering.{numbered-more}
use Rattle.juniper_merging.proofs.numbered.placed_nodes.Goals as goal

pub loop-before-preserved : goal.loop-before-preserved
loop-before-preserved c =
    let made = c.args.united.now in
    let w = c.index-united-united.result in
    let k = length made - 1 - c.loop-before.before in
    let r = c.in_ok-put.ensures in
    numbered-more c.loop-before.placed.numbers.items made c.loop-before.placed.nodes.items c.put.new.self.nodes.items c.put.new.self.numbers.items k w r.1.0
    c.loop-before.invariant (slice_get-get_or made k w (let l = c.loop-before-test.true in omega (arith, l)) ∙ ap Some (sym c.index-united-united.is)) r.0
    r.1.1 r.1.2
