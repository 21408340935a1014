use Rattle.std.proofs.Common.{◌≡◌, drop, map}
use Rattle.std.specs.List.{list_all}
use Rattle.graphql_spec.specs.Executable.{input_names_differ}
use Rattle.juniper_meta.specs.MetaView.{view_field}
use Rattle.juniper_schema.proofs.executable.distinct_names.argument_names_differ.Given as goal

-- what is left decides
abbrev pub invariant-loop-field : goal.invariant-loop-field
invariant-loop-field g l =
    let shown = g.S.ScalarValue.shown in
    list_all (λ f. input_names_differ f.arguments) (map (view_field shown) (drop l.field-index l.fields))
    ≡ list_all (λ f. input_names_differ f.arguments) (map (view_field shown) l.fields)
