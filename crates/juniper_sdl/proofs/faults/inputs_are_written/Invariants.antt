use Rattle.std.proofs.Common.{◌≡◌, drop, map}
use Rattle.std.specs.List.{list_all}
use Rattle.juniper_meta.specs.MetaView.{view_argument}
use Rattle.juniper_sdl.specs.Faults.{input_is_written}
use Rattle.juniper_sdl.proofs.faults.inputs_are_written.Given as goal

-- what is left decides
abbrev pub invariant-loop-argument : goal.invariant-loop-argument
invariant-loop-argument g l =
    let seen = view_argument g.S.ScalarValue.shown in
    list_all input_is_written (map seen (drop l.argument-index l.declared)) ≡ list_all input_is_written (map seen l.declared)
