use Rattle.std.proofs.Common.{[], Some, get_or, unwrap_or, sym, ap, ◌∙◌}
use Rattle.graphql_spec.specs.Introspected.{own_fields}
use Rattle.juniper_meta.specs.MetaView.{view_field, view_meta}
use Rattle.juniper_intro.specs.Handles.{no_field, field_at}
use Rattle.juniper_intro.specs.Shapes.{shape_in}
use Rattle.juniper_intro.proofs.Looked.{fields-own, looked}
use Rattle.juniper_intro.proofs.introspector.Introspector.field.Goals as goal

pub returns-in-Some : goal.returns-in-Some
unfolding field_at
returns-in-Some g c =
    let shown = g.S.ScalarValue.shown in
    looked (view_field shown) c.fields.result.now c.args.self.now.absent.field c.nth_or.result.now c.args.number (no_field)
    (unwrap_or (own_fields (Some (view_meta shown c.in-Some.meta.now).shape)) []) c.nth_or.ensures
    (c.fields.ensures ∙ fields-own (view_meta shown c.in-Some.meta.now).shape) c.args.self.now.absent.no_field
    ∙ ap (λ o. get_or (unwrap_or (own_fields o) []) c.args.number (no_field)) (sym (ap (shape_in shown) c.in-Some.is) ∙ c.declared_at.ensures)

pub returns-in-None : goal.returns-in-None
unfolding field_at own_fields
returns-in-None g c =
    let shown = g.S.ScalarValue.shown in
    c.args.self.now.absent.no_field ∙ ap (λ o. get_or (unwrap_or (own_fields o) []) c.args.number (no_field))
    (sym (ap (shape_in shown) c.in-None.is) ∙ c.declared_at.ensures)
