use Rattle.std.proofs.Common.{take}
use Rattle.juniper_syntax.specs.Indexes.{Shows}
use Rattle.juniper_syntax.proofs.places.places_of.Given as goal

abbrev pub invariant-loop-place : goal.invariant-loop-place
invariant-loop-place l = Shows l.places (take l.place l.names)
