use Rattle.std.proofs.Common.{◌<◌, ◌≤◌, length, ◌++◌, refl, ap, ◌∙◌, arith}
use Rattle.graphql_spec.specs.Documents.{written}
use Rattle.juniper_syntax.specs.DocumentView.{view_arguments, view_field}
use Rattle.juniper_written.specs.WrittenView.{view_list}
use Rattle.juniper_syntax.proofs.Lists.{seen-push}
use Rattle.juniper_written.proofs.Lists.{seen-next, seen-all, seen-twice}
use Rattle.juniper_written.proofs.arguments.push_of_fields.Goals as goal

pub loop-index-init : goal.loop-index-init
loop-index-init g c = refl

pub loop-index-preserved : goal.loop-index-preserved
loop-index-preserved g c =
    let shown = g.S.ScalarValue.shown in
    let below : c.loop-index.index < length c.args.fields.now.items = omega (arith, c.loop-index-test.true, c.len-index-end.ensures, c.args.fields.now.ok.0) in
    seen-next (λ x. written (view_field shown x.now).arguments) c.args.fields.now.items
    (view_list shown c.args.lists.now.items) c.loop-index.index c.index-field.result.now
    (view_list shown c.loop-index.lists.items) (view_list shown c.push.new.self.items) below c.index-field.ensures c.loop-index.invariant
    (seen-push (λ a. written (view_arguments shown a.now)) c.loop-index.lists.items c.push.new.self.items _ c.in_ok-push.ensures.items)

pub returns : goal.returns
returns g c =
    let shown = g.S.ScalarValue.shown in
    let old = view_list shown c.args.lists.now.items in
    let past : length c.args.fields.now.items ≤ c.loop-index.index = omega (arith, c.loop-index-test.false, c.len-index-end.ensures, c.args.fields.now.ok.0) in
    seen-all (λ x. written (view_field shown x.now).arguments) c.args.fields.now.items old c.loop-index.index
    (view_list shown c.loop-index.lists.items) past c.loop-index.invariant
    ∙ ap (λ l. old ++ l) (seen-twice (λ x. view_field shown x.now) (λ h. written h.arguments) c.args.fields.now.items)
