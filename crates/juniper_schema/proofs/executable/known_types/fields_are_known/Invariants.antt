use Rattle.std.proofs.Common.{◌≡◌, drop, map}
use Rattle.std.specs.List.{list_all}
use Rattle.graphql_spec.specs.Executable.{field_is_known}
use Rattle.juniper_meta.specs.MetaView.{view_field}
use Rattle.juniper_schema.specs.SchemaView.{view_schema}
use Rattle.juniper_schema.proofs.executable.known_types.fields_are_known.Given as goal

-- what is left decides
abbrev pub invariant-loop-field : goal.invariant-loop-field
invariant-loop-field g l =
    let shown = g.S.ScalarValue.shown in
    list_all (field_is_known (view_schema shown l.schema)) (map (view_field shown) (drop l.field-index l.fields))
    ≡ list_all (field_is_known (view_schema shown l.schema)) (map (view_field shown) l.fields)
