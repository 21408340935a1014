use Rattle.std.proofs.Common.{map, take}
use Rattle.juniper.specs.Server.{AllAnswer}
use Rattle.juniper_library.specs.Replies.{copies, copies_reply}
use Rattle.juniper_library.proofs.resolvers.copies_of.Given as goal

-- the nodes before this one are answered
abbrev pub invariant-loop-node : goal.invariant-loop-node
invariant-loop-node g l =
    AllAnswer g.S.ScalarValue.shown (λ n. copies_reply (copies l.known n)) (map (λ n. n.now) (take l.node-index l.nodes)) l.made.items
