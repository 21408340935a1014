use Rattle.std.proofs.Common.{◌≡◌, drop, map}
use Rattle.std.specs.List.{list_all}
use Rattle.graphql_spec.specs.Executable.{default_is_right}
use Rattle.juniper_meta.specs.MetaView.{view_field}
use Rattle.juniper_schema.specs.SchemaView.{view_schema}
use Rattle.juniper_schema.proofs.executable.defaults.field_defaults_fit.Given as goal

-- what is left decides
abbrev pub invariant-loop-field : goal.invariant-loop-field
invariant-loop-field g l =
    let shown = g.S.ScalarValue.shown in
    list_all (λ f. list_all (default_is_right (view_schema shown l.schema)) f.arguments) (map (view_field shown) (drop l.field-index l.fields))
    ≡ list_all (λ f. list_all (default_is_right (view_schema shown l.schema)) f.arguments) (map (view_field shown) l.fields)
