use Rattle.std.proofs.Common.{◌≡◌, ◌++◌, map, drop}
use Rattle.juniper_meta.specs.MetaView.{view_field}
use Rattle.juniper_meta.specs.Rows.{row_field}
use Rattle.juniper_meta.proofs.fields.fields_of.Given as goal

-- what is made, before what is still to be made, is the whole
abbrev pub invariant-loop-row : goal.invariant-loop-row
invariant-loop-row g l =
    map (view_field g.S.ScalarValue.shown) l.fields.items ++ map row_field (drop l.row-index l.rows) ≡ map row_field l.rows
