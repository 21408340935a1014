use Rattle.std.proofs.Common.{◌≡◌, ◌++◌, map, drop}
use Rattle.juniper_meta.specs.MetaView.{own_entry}
use Rattle.juniper_meta.specs.Rows.{row_type}
use Rattle.juniper_meta.proofs.introspection.types_of.Given as goal

-- what is made, before what is still to be made, is the whole
abbrev pub invariant-loop-row : goal.invariant-loop-row
invariant-loop-row g l =
    map (own_entry g.S.ScalarValue.shown) l.types.items ++ map row_type (drop l.row-index l.rows) ≡ map row_type l.rows
