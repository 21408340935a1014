use Rattle.std.proofs.Common.{◌≡◌, drop, map}
use Rattle.std.specs.List.{list_any}
use Rattle.juniper_meta.specs.MetaView.{view_field}
use Rattle.juniper_sdl.specs.Faults.{is_listed}
use Rattle.juniper_sdl.proofs.faults.lists_field.Given as goal

-- what is left decides
abbrev pub invariant-loop-field : goal.invariant-loop-field
invariant-loop-field g l =
    let seen = view_field g.S.ScalarValue.shown in list_any is_listed (map seen (drop l.field-index l.fields)) ≡ list_any is_listed (map seen l.fields)
