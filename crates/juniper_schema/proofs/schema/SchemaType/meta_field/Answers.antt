use Rattle.std.proofs.Common.{ap, map, ◌∙◌}
use Rattle.std.specs.Str.{bytes_eq}
use Rattle.graphql_spec.specs.Fields.{field_in}
use Rattle.juniper_meta.specs.MetaView.{view_field}
use Rattle.juniper_schema.specs.SchemaView.{view_schema}
use Rattle.juniper_schema.proofs.MetaFields.{found_nowhere, found_there}
use Rattle.juniper_schema.proofs.schema.SchemaType.meta_field.Goals as goal

pub returns-then-may_have : goal.returns-then-may_have
returns-then-may_have g c =
    let shown = g.S.ScalarValue.shown in
    c.find_field.ensures ∙ (ap (λ ds. field_in ds c.args.field_name.now) (ap (map (view_field shown)) c.deref.ensures.value ∙ c.args.self.now.fielded)
    ∙ found_there c.args.field_name.now (bytes_eq c.args.type_name.now (view_schema shown c.args.self.now).query) c.if-may_have.ensures)

pub returns-else-may_have : goal.returns-else-may_have
returns-else-may_have g c =
    let shown = g.S.ScalarValue.shown in
    found_nowhere c.args.field_name.now (bytes_eq c.args.type_name.now (view_schema shown c.args.self.now).query) c.if-may_have.ensures
