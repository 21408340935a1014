use Rattle.std.proofs.Common.{◌≡◌, drop, map}
use Rattle.std.specs.List.{list_all}
use Rattle.juniper_meta.specs.MetaView.{view_field}
use Rattle.juniper_sdl.specs.Faults.{listed_is_written}
use Rattle.juniper_sdl.proofs.faults.fields_are_written.Given as goal

-- what is left decides
abbrev pub invariant-loop-field : goal.invariant-loop-field
invariant-loop-field g l =
    let seen = view_field g.S.ScalarValue.shown in
    list_all listed_is_written (map seen (drop l.field-index l.fields)) ≡ list_all listed_is_written (map seen l.fields)
