use Rattle.std.proofs.Common.{◌≡◌, ℕ, map, take}
use Rattle.juniper_words.specs.Nodes.{MakesEach}
use Rattle.juniper_words.proofs.node_lists.nodes_at.Given as goal

-- the nodes of the places so far
abbrev pub invariant-loop-place : goal.invariant-loop-place
invariant-loop-place g l = (at : ℕ → g.row.N.Denot) → MakesEach g.P.Fn l.fn.node at → l.nodes.items ≡ map at (take l.place-index l.places)
