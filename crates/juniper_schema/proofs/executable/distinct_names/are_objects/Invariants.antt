use Rattle.std.proofs.Common.{◌≡◌, drop, map, string_bytes}
use Rattle.std.specs.List.{list_all}
use Rattle.graphql_spec.specs.Fields.{entry_named, is_object}
use Rattle.juniper_schema.specs.SchemaView.{view_schema}
use Rattle.juniper_schema.proofs.executable.distinct_names.are_objects.Given as goal

-- what is left decides
abbrev pub invariant-loop-name : goal.invariant-loop-name
invariant-loop-name g l =
    let shown = g.S.ScalarValue.shown in
    list_all (λ m. is_object (entry_named (view_schema shown l.schema) m)) (map (λ n. string_bytes n) (drop l.name-index l.names))
    ≡ list_all (λ m. is_object (entry_named (view_schema shown l.schema) m)) (map (λ n. string_bytes n) l.names)
