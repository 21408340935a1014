use Rattle.std.proofs.Common.{◌≡◌, ◌++◌, drop, map}
use Rattle.std.specs.Prelude.{option_map}
use Rattle.juniper_intro.specs.HandleView.{users_in}
use Rattle.juniper_intro.proofs.resolver.users_of.Given as goal

-- what is found, put before what is still to come, is the whole
abbrev pub invariant-loop-node : goal.invariant-loop-node
invariant-loop-node g l =
    option_map (λ users. map (λ n. n.now) l.users.items ++ users) (users_in (map (λ n. n.now) (drop l.node-index l.nodes)))
    ≡ users_in (map (λ n. n.now) l.nodes)
