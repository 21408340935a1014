use Rattle.std.proofs.Common.{ap, sym, ◌∙◌, option_map}
use Rattle.graphql_spec.specs.Fields.{field_of}
use Rattle.juniper_meta.specs.MetaView.{view_field}
use Rattle.juniper_schema.specs.SchemaView.{view_schema}
use Rattle.juniper_field_graph.proofs.PlainFields.{below-known}
use Rattle.juniper_field_graph.proofs.plain_keys.type_below.Goals as goal

pub returns-in-Some : goal.returns-in-Some
returns-in-Some g c =
    let view = view_field g.S.ScalarValue.shown in
    c.innermost_name.ensures
    ∙ below-known (field_of (view_schema g.S.ScalarValue.shown c.args.schema.now) c.args.parent.now c.args.name.now) (view c.in-Some.field.now)
    (sym c.field_of.ensures ∙ ap (option_map (λ f. view f.now)) c.in-Some.is)
