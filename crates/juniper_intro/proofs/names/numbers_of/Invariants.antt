use Rattle.std.proofs.Common.{map, string_bytes, take}
use Rattle.juniper_intro.specs.Numbers.{StandAt}
use Rattle.juniper_intro.proofs.names.numbers_of.Given as goal

-- each name so far stands at its number
abbrev pub invariant-loop-number : goal.invariant-loop-number
invariant-loop-number l = StandAt (map (λ n. string_bytes n) (take l.number l.names)) (map (λ n. string_bytes n) l.names) l.numbers
