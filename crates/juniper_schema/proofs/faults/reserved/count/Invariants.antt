use Rattle.std.proofs.Common.{◌≡◌, map, ◌+◌, ◌≤◌, drop}
use Rattle.juniper_schema.specs.Searching.{times_listed}
use Rattle.juniper_schema.proofs.faults.reserved.count.Given as goal

-- what is counted, and what is left to count
abbrev pub invariant-loop-own : goal.invariant-loop-own
invariant-loop-own l =
    (l.found ≤ l.own-index) ×
    (l.found + times_listed l.name (map (λ n. n.now) (drop l.own-index l.own-items)) ≡ times_listed l.name (map (λ n. n.now) l.own-items))
