use Rattle.std.proofs.Common.{◌≡◌, ◌++◌, map, drop}
use Rattle.juniper_meta.specs.MetaView.{view_directive}
use Rattle.juniper_meta.specs.Rows.{row_directive}
use Rattle.juniper_meta.proofs.built_in_directives.directives_of.Given as goal

-- what is made, before what is still to be made, is the whole
abbrev pub invariant-loop-row : goal.invariant-loop-row
invariant-loop-row g l =
    map (view_directive g.S.ScalarValue.shown) l.directives.items ++ map row_directive (drop l.row-index l.rows) ≡ map row_directive l.rows
