use Rattle.std.proofs.Common.{◌≡◌, drop, map}
use Rattle.juniper_schema.specs.SchemaView.{view_schema}
use Rattle.juniper_schema.specs.Faults.{member_meets}
use Rattle.std.proofs.Common.{string_bytes}
use Rattle.juniper_schema.specs.Searching.{first_failing}
use Rattle.juniper_schema.proofs.faults.parts.first_union_member.Given as goal

-- what is left decides
abbrev pub invariant-loop-name : goal.invariant-loop-name
invariant-loop-name g l =
    let shown = g.S.ScalarValue.shown in
    first_failing (λ i. i) (member_meets (view_schema shown l.schema) l.demand) (map (λ n. string_bytes n) (drop l.name-index l.names))
    ≡ first_failing (λ i. i) (member_meets (view_schema shown l.schema) l.demand) (map (λ n. string_bytes n) l.names)
