use Rattle.juniper_schema.specs.SchemaView.{view_schema}
use Rattle.juniper_schema.proofs.MetaFields.{no_type}
use Rattle.juniper_schema.proofs.schema.SchemaType.field_of.Goals as goal

pub returns-in-Some : goal.returns-in-Some
returns-in-Some g c = c.field_of_type.ensures c.in-Some.ensures.shape

pub returns-in-None : goal.returns-in-None
returns-in-None g c =
    let shown = g.S.ScalarValue.shown in
    no_type (view_schema shown c.args.self.now) c.args.type_name.now c.args.field_name.now c.in-None.ensures.shape
