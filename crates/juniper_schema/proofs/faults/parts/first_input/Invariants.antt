use Rattle.std.proofs.Common.{◌≡◌, drop, map}
use Rattle.juniper_meta.specs.MetaView.{view_argument}
use Rattle.juniper_schema.specs.SchemaView.{view_schema}
use Rattle.juniper_schema.specs.Faults.{input_meets}
use Rattle.juniper_schema.specs.Searching.{first_failing}
use Rattle.juniper_schema.proofs.faults.parts.first_input.Given as goal

-- what is left decides
abbrev pub invariant-loop-argument : goal.invariant-loop-argument
invariant-loop-argument g l =
    let shown = g.S.ScalarValue.shown in
    first_failing (λ i. i.name) (input_meets (view_schema shown l.schema) l.demand) (map (view_argument shown) (drop l.argument-index l.declared))
    ≡ first_failing (λ i. i.name) (input_meets (view_schema shown l.schema) l.demand) (map (view_argument shown) l.declared)
