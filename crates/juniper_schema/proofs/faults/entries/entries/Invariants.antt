use Rattle.std.proofs.Common.{◌≡◌, ◌++◌, map, drop}
use Rattle.juniper_schema.specs.SchemaView.{view_schema}
use Rattle.juniper_schema.specs.Searching.{entries_of, view_named}
use Rattle.juniper_schema.proofs.faults.entries.entries.Given as goal

-- what is put in, and what is still to come
abbrev pub invariant-loop-name : goal.invariant-loop-name
invariant-loop-name g l =
    let shown = g.S.ScalarValue.shown in
    map (view_named shown) l.entries.items ++ entries_of (view_schema shown l.schema) (map (λ n. n.now) (drop l.name-index l.name-items))
    ≡ entries_of (view_schema shown l.schema) (map (λ n. n.now) l.name-items)
