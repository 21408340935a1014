use Rattle.std.proofs.Common.{◌≡◌, drop, map}
use Rattle.juniper_schema.specs.MadeTypes.{view_made}
use Rattle.juniper_sdl.specs.Faults.{first_fault}
use Rattle.juniper_sdl.proofs.faults.first_fault.Given as goal

-- what is left decides
abbrev pub invariant-loop-declared : goal.invariant-loop-declared
invariant-loop-declared g l =
    let seen = view_made g.S.ScalarValue.shown in first_fault (map seen (drop l.declared-index l.types)) ≡ first_fault (map seen l.types)
