use Rattle.std.proofs.Common.{[], Some, get_or, unwrap_or, sym, ap, ◌∙◌}
use Rattle.graphql_spec.specs.BuiltIns.{value_named}
use Rattle.graphql_spec.specs.Introspected.{own_values}
use Rattle.juniper_meta.specs.MetaView.{view_enum_value, view_meta}
use Rattle.juniper_intro.specs.Handles.{value_at}
use Rattle.juniper_intro.specs.Shapes.{shape_in}
use Rattle.juniper_intro.proofs.Looked.{values-own, looked}
use Rattle.juniper_intro.proofs.introspector.Introspector.value.Goals as goal

pub returns-in-Some : goal.returns-in-Some
unfolding value_at
returns-in-Some g c =
    let shown = g.S.ScalarValue.shown in
    looked (view_enum_value) c.values.result.now c.args.self.now.absent.value c.nth_or.result.now c.args.number (value_named [])
    (unwrap_or (own_values (Some (view_meta shown c.in-Some.meta.now).shape)) []) c.nth_or.ensures
    (c.values.ensures ∙ values-own (view_meta shown c.in-Some.meta.now).shape) c.args.self.now.absent.no_value
    ∙ ap (λ o. get_or (unwrap_or (own_values o) []) c.args.number (value_named [])) (sym (ap (shape_in shown) c.in-Some.is) ∙ c.declared_at.ensures)

pub returns-in-None : goal.returns-in-None
unfolding value_at own_values
returns-in-None g c =
    let shown = g.S.ScalarValue.shown in
    c.args.self.now.absent.no_value ∙ ap (λ o. get_or (unwrap_or (own_values o) []) c.args.number (value_named []))
    (sym (ap (shape_in shown) c.in-None.is) ∙ c.declared_at.ensures)
