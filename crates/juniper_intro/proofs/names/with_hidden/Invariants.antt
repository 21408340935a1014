use Rattle.std.proofs.Common.{◌≡◌, map, string_bytes, take}
use Rattle.juniper_intro.proofs.names.with_hidden.Given as goal

-- the names so far
abbrev pub invariant-loop-name : goal.invariant-loop-name
invariant-loop-name l = map (λ n. string_bytes n) l.names.items ≡ map (λ n. n.now) (take l.name-index l.listed)
