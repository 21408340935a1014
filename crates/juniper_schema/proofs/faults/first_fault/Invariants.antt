use Rattle.std.proofs.Common.{◌≡◌, drop, map}
use Rattle.juniper_schema.specs.SchemaView.{view_schema}
use Rattle.juniper_schema.specs.Searching.{first_fault, view_named}
use Rattle.juniper_schema.proofs.faults.first_fault.Given as goal

-- what is left decides
abbrev pub invariant-loop-entry : goal.invariant-loop-entry
invariant-loop-entry g l =
    let shown = g.S.ScalarValue.shown in
    first_fault (view_schema shown l.schema) l.demand (map (view_named shown) (drop l.entry-index l.entries))
    ≡ first_fault (view_schema shown l.schema) l.demand (map (view_named shown) l.entries)
