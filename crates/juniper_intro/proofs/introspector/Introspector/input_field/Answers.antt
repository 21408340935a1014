use Rattle.std.proofs.Common.{[], Some, get_or, unwrap_or, sym, ap, ◌∙◌}
use Rattle.graphql_spec.specs.Introspected.{listed_inputs}
use Rattle.juniper_meta.specs.MetaView.{view_argument, view_meta}
use Rattle.juniper_intro.specs.Handles.{no_input, input_at}
use Rattle.juniper_intro.specs.Shapes.{shape_in}
use Rattle.juniper_intro.proofs.Looked.{inputs-own, looked}
use Rattle.juniper_intro.proofs.introspector.Introspector.input_field.Goals as goal

pub returns-in-Some : goal.returns-in-Some
unfolding input_at
returns-in-Some g c =
    let shown = g.S.ScalarValue.shown in
    looked (view_argument shown) c.input_fields.result.now c.args.self.now.absent.input c.nth_or.result.now c.args.number (no_input)
    (unwrap_or (listed_inputs (Some (view_meta shown c.in-Some.meta.now).shape)) []) c.nth_or.ensures
    (c.input_fields.ensures ∙ inputs-own (view_meta shown c.in-Some.meta.now).shape) c.args.self.now.absent.no_input
    ∙ ap (λ o. get_or (unwrap_or (listed_inputs o) []) c.args.number (no_input)) (sym (ap (shape_in shown) c.in-Some.is) ∙ c.declared_at.ensures)

pub returns-in-None : goal.returns-in-None
unfolding input_at listed_inputs
returns-in-None g c =
    let shown = g.S.ScalarValue.shown in
    c.args.self.now.absent.no_input ∙ ap (λ o. get_or (unwrap_or (listed_inputs o) []) c.args.number (no_input))
    (sym (ap (shape_in shown) c.in-None.is) ∙ c.declared_at.ensures)
