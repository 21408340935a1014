use Rattle.juniper_merging.specs.Numbered.{ArePlaced}
use Rattle.juniper_merging.proofs.numbered.placed_nodes.Given as goal

-- those that were put so far
abbrev pub invariant-loop-before : goal.invariant-loop-before
invariant-loop-before l = ArePlaced l.united l.placed.numbers.items l.placed.nodes.items
