use Rattle.std.proofs.Common.{◌≡◌, drop, map}
use Rattle.std.specs.List.{list_all}
use Rattle.graphql_spec.specs.Executable.{field_is_free}
use Rattle.juniper_meta.specs.MetaView.{view_field}
use Rattle.juniper_schema.proofs.executable.entry_names.fields_are_free.Given as goal

-- what is left decides
abbrev pub invariant-loop-field : goal.invariant-loop-field
invariant-loop-field g l =
    let seen = view_field g.S.ScalarValue.shown in
    list_all field_is_free (map seen (drop l.field-index l.fields)) ≡ list_all field_is_free (map seen l.fields)
