use Rattle.std.proofs.Common.{◌≡◌, drop}
use Rattle.juniper_syntax.specs.NameNumbers.{name_number, number_from}
use Rattle.juniper_syntax.proofs.places.name_number.Given as goal

-- what is left decides
abbrev pub invariant-loop-byte : goal.invariant-loop-byte
invariant-loop-byte l = name_number l.name ≡ number_from l.number (drop l.byte-index l.name)
