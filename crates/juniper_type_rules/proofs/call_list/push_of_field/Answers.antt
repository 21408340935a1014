use Rattle.std.proofs.Common.{ap, option_map, ◌∙◌, ◌++◌, ◌∷◌, []}
use Rattle.graphql_spec.specs.Documents.{written}
use Rattle.juniper_meta.specs.MetaView as metas
use Rattle.juniper_syntax.proofs.Lists.{seen-push}
use Rattle.juniper_syntax.specs.DocumentView.{view_field}
use Rattle.juniper_type_rules.specs.CallView.{view_call, view_calls}
use Rattle.juniper_type_rules.specs.Placing.{call_of_field, field_call}
use Rattle.juniper_type_rules.proofs.Calling.{adds-some, adds-none}
use Rattle.juniper_type_rules.proofs.call_list.push_of_field.Goals as goal

pub returns-in_ok-push-in-Some : goal.returns-in_ok-push-in-Some
unfolding call_of_field
returns-in_ok-push-in-Some g c =
    let shown = g.S.ScalarValue.shown in
    let old = view_calls shown c.args.calls.now.items in
    let head = view_field shown c.args.placed.now.field.now in
    adds-some (field_call head) (option_map (λ f. metas.view_field shown f.now) c.args.placed.now.declared) (metas.view_field shown c.in-Some.found.now) old _
    (ap (option_map (λ f. metas.view_field shown f.now)) c.in-Some.is)
    (seen-push (view_call shown) c.args.calls.now.items c.push.new.self.items _ c.in_ok-push-in-Some.ensures.items
    ∙ ap (λ l. old ++ record { declared = l; given = written head.arguments } ∷ []) c.declared_arguments.ensures)

pub returns-in-None : goal.returns-in-None
unfolding call_of_field
returns-in-None g c =
    let shown = g.S.ScalarValue.shown in
    adds-none (field_call (view_field shown c.args.placed.now.field.now)) (option_map (λ f. metas.view_field shown f.now) c.args.placed.now.declared)
    (view_calls shown c.args.calls.now.items)
    (ap (option_map (λ f. metas.view_field shown f.now)) c.in-None.is)
