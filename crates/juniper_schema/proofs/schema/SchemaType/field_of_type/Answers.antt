use Rattle.juniper_meta.specs.MetaView.{shape_of, view_field}
use Rattle.juniper_schema.specs.SchemaView.{view_schema}
use Rattle.juniper_schema.proofs.MetaFields.{declared_first, has_none, then_own}
use Rattle.juniper_schema.proofs.schema.SchemaType.field_of_type.Goals as goal

pub returns-in-Some : goal.returns-in-Some
returns-in-Some g c is =
    let shown = g.S.ScalarValue.shown in
    declared_first (view_schema shown c.args.self.now) c.args.type_name.now c.args.field_name.now (shape_of shown c.args.meta.now) is
    (view_field shown c.in-Some.field.now) c.in-Some.ensures

pub returns-then-is_composite : goal.returns-then-is_composite
returns-then-is_composite g c is =
    let shown = g.S.ScalarValue.shown in
    then_own (view_schema shown c.args.self.now) c.args.type_name.now c.args.field_name.now
    (shape_of shown c.args.meta.now) is c.in-None.ensures c.if-is_composite.ensures _ c.meta_field.ensures

pub returns-else-is_composite : goal.returns-else-is_composite
returns-else-is_composite g c is =
    let shown = g.S.ScalarValue.shown in
    has_none (view_schema shown c.args.self.now) c.args.type_name.now c.args.field_name.now
    (shape_of shown c.args.meta.now) is c.in-None.ensures c.if-is_composite.ensures
