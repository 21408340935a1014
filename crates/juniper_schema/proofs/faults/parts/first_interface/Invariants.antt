use Rattle.std.proofs.Common.{◌≡◌, drop, map}
use Rattle.juniper_schema.specs.SchemaView.{view_schema}
use Rattle.juniper_schema.specs.Faults.{interface_meets}
use Rattle.juniper_schema.specs.Searching.{view_named}
use Rattle.std.proofs.Common.{string_bytes}
use Rattle.juniper_schema.specs.Searching.{first_failing}
use Rattle.juniper_schema.proofs.faults.parts.first_interface.Given as goal

-- what is left decides
abbrev pub invariant-loop-name : goal.invariant-loop-name
invariant-loop-name g l =
    let shown = g.S.ScalarValue.shown in
    first_failing (λ i. i) (interface_meets (view_schema shown l.schema) l.demand (view_named shown l.entry)) (map (λ n. string_bytes n)
    (drop l.name-index l.names))
    ≡ first_failing (λ i. i) (interface_meets (view_schema shown l.schema) l.demand (view_named shown l.entry)) (map (λ n. string_bytes n) l.names)
