use Rattle.std.proofs.Common.{◌≡◌, ℕ, Bool, ◌++◌, drop, length}
use Rattle.juniper_words.specs.Nodes.{Makes, Tests, nodes_where}
use Rattle.juniper_words.proofs.NodesFrom.{nodes_from}
use Rattle.juniper_words.proofs.node_lists.nodes_where.Given as goal

-- the nodes so far, and those of the entries that are left
abbrev pub invariant-loop-place : goal.invariant-loop-place
invariant-loop-place g l =
    (at : ℕ → g.row.N.Denot) (test : g.row.E.Denot → Bool) → Makes g.P.Fn l.fn.node (length l.fn.entries) at → Tests g.F.Fn l.fn.passes test
    → l.nodes.items ++ nodes_from at test l.place (drop l.place l.fn.entries) ≡ nodes_where at test l.fn.entries
