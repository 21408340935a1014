use Rattle.std.proofs.Common.{Some, ap, sym, ◌∙◌}
use Rattle.std.specs.Prelude.{length}
use Rattle.std.proofs.lemmas.Option.{slice_get-get_or}
use Rattle.juniper_merging.specs.Questions.{seen}
use Rattle.juniper_merging.proofs.Answered.{nothing-answered}
use Rattle.juniper_merging.proofs.conflicts.clashes_within.Goals as goal

pub loop-number-init : goal.loop-number-init
loop-number-init c t H nodes = record {
  known = nothing-answered (seen t c.args.vertices.now) H _ (c.in_ok-loud.ensures t H nodes) c.new.ensures.items c.new-2.ensures.items;
  count = ap length c.new-2.ensures.items;
  empty = c.in_ok-index.ensures;
}

pub loop-number-preserved : goal.loop-number-preserved
loop-number-preserved c t H nodes =
    let n = c.index-nodes-number.result in
    c.in_ok-answer_node.ensures t H nodes (slice_get-get_or c.args.nodes.now c.loop-number.number n c.loop-number-test.true ∙ ap Some (sym
    c.index-nodes-number.is)) (c.loop-number.invariant t H nodes)

pub returns : goal.returns
returns c t H nodes = (c.loop-number.invariant t H nodes).known.within
