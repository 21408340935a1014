use Rattle.std.proofs.Common.{◌≡◌, map, drop}
use Rattle.juniper_schema.specs.Searching.{first_taken}
use Rattle.juniper_schema.proofs.faults.reserved.first_taken.Given as goal

-- what is left decides
abbrev pub invariant-loop-name : goal.invariant-loop-name
invariant-loop-name l =
    first_taken (map (λ n. n.now) l.names.items) (map (λ n. n.now) (drop l.name-index l.name-items))
    ≡ first_taken (map (λ n. n.now) l.names.items) (map (λ n. n.now) l.name-items)
