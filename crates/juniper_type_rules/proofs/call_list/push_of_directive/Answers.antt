use Rattle.std.proofs.Common.{ap, option_map, ◌∙◌, ◌++◌, ◌∷◌, [], sym, map}
use Rattle.graphql_spec.specs.Documents.{written}
use Rattle.graphql_spec.specs.Placed.{directive_named}
use Rattle.juniper_meta.specs.MetaView as metas
use Rattle.juniper_syntax.specs.DocumentView.{view_directive}
use Rattle.juniper_syntax.proofs.Lists.{seen-push}
use Rattle.juniper_type_rules.specs.CallView.{view_call, view_calls}
use Rattle.juniper_type_rules.specs.Placing.{call_of_directive, directive_call}
use Rattle.juniper_type_rules.proofs.Calling.{adds-some, adds-none}
use Rattle.juniper_type_rules.proofs.call_list.push_of_directive.Goals as goal

pub returns-in_ok-push-in-Some : goal.returns-in_ok-push-in-Some
unfolding call_of_directive
returns-in_ok-push-in-Some g c =
    let shown = g.S.ScalarValue.shown in
    let old = view_calls shown c.args.calls.now.items in
    let x = view_directive shown c.args.directive.now in
    adds-some (directive_call x) (directive_named x.name.item) (metas.view_directive shown c.in-Some.found.now) old _
    (sym c.directive_by_name.ensures ∙ ap (option_map (λ d. metas.view_directive shown d.now)) c.in-Some.is)
    (seen-push (view_call shown) c.args.calls.now.items c.push.new.self.items _ c.in_ok-push-in-Some.ensures.items
    ∙ ap (λ l. old ++ record { declared = map (metas.view_argument shown) l; given = written x.arguments } ∷ []) c.as_slice.ensures.value)

pub returns-in-None : goal.returns-in-None
unfolding call_of_directive
returns-in-None g c =
    let shown = g.S.ScalarValue.shown in
    let x = view_directive shown c.args.directive.now in
    adds-none (directive_call x) (directive_named x.name.item) (view_calls shown c.args.calls.now.items)
    (sym c.directive_by_name.ensures ∙ ap (option_map (λ d. metas.view_directive shown d.now)) c.in-None.is)
