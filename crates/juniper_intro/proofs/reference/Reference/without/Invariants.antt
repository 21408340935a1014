use Rattle.std.proofs.Common.{◌≡◌}
use Rattle.juniper_intro.specs.Handles.{taken_off}
use Rattle.juniper_intro.specs.References.{view_reference}
use Rattle.juniper_intro.proofs.reference.Reference.without.Given as goal

-- so many were taken off
abbrev pub invariant-loop-turn : goal.invariant-loop-turn
invariant-loop-turn l = view_reference l.inner ≡ taken_off l._turn (view_reference l.self)
