use Rattle.std.proofs.Common.{◌≡◌, map, drop}
use Rattle.graphql_spec.specs.Fields.{field_in}
use Rattle.juniper_meta.specs.MetaView.{view_field}
use Rattle.juniper_meta.proofs.declaration.find_field.Given as goal

-- what is left decides
abbrev pub invariant-loop-field : goal.invariant-loop-field
invariant-loop-field g l =
    field_in (map (view_field g.S.ScalarValue.shown) l.fields) l.name ≡ field_in (map (view_field g.S.ScalarValue.shown) (drop l.field-index l.fields)) l.name
