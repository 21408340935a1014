use Rattle.std.proofs.Common.{◌≡◌, drop, map}
use Rattle.juniper_meta.specs.MetaView.{view_field}
use Rattle.juniper_schema.specs.SchemaView.{view_schema}
use Rattle.juniper_schema.specs.Faults.{field_meets}
use Rattle.juniper_schema.specs.Searching.{first_failing}
use Rattle.juniper_schema.proofs.faults.parts.first_field.Given as goal

-- what is left decides
abbrev pub invariant-loop-field : goal.invariant-loop-field
invariant-loop-field g l =
    let shown = g.S.ScalarValue.shown in
    first_failing (λ f. f.name) (field_meets (view_schema shown l.schema) l.demand) (map (view_field shown) (drop l.field-index l.fields))
    ≡ first_failing (λ f. f.name) (field_meets (view_schema shown l.schema) l.demand) (map (view_field shown) l.fields)
