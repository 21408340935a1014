use Rattle.std.proofs.Common.{refl, ap, arith, length, ◌<◌, ◌≤◌, ◌∙◌, ◌++◌}
use Rattle.graphql_spec.specs.Placed.{directive_named}
use Rattle.juniper_syntax.specs.DocumentView.{view_directive}
use Rattle.juniper_explain.specs.SitesView.{view_sites}
use Rattle.juniper_explain.specs.Sites.{directive_site}
use Rattle.juniper_written.proofs.Lists.{flat-all, flat-next, flat-seen}
use Rattle.juniper_explain.proofs.sites.add_directives.Goals as goal

pub loop-index-init : goal.loop-index-init
loop-index-init g c = refl

pub loop-index-preserved : goal.loop-index-preserved
loop-index-preserved g c =
    let shown = g.S.ScalarValue.shown in
    let below : c.loop-index.index < length c.args.directives.now.items = omega (
      arith,
      c.loop-index-test.true,
      c.len-index-end.ensures,
      c.args.directives.now.ok.0,
    ) in
    flat-next (λ x. directive_site (view_directive shown x.now) (directive_named (view_directive shown x.now).name.item)) c.args.directives.now.items
    (view_sites shown c.args.sites.now.items) c.loop-index.index c.index-directive.result.now
    (view_sites shown c.loop-index.sites.items) (view_sites shown c.add_directive.new.sites.items) below c.index-directive.ensures c.loop-index.invariant
    c.in_ok-add_directive.ensures

pub returns : goal.returns
returns g c =
    let shown = g.S.ScalarValue.shown in
    let past : length c.args.directives.now.items ≤ c.loop-index.index = omega (
      arith,
      c.loop-index-test.false,
      c.len-index-end.ensures,
      c.args.directives.now.ok.0,
    ) in
    let old = view_sites shown c.args.sites.now.items in
    flat-all (λ x. directive_site (view_directive shown x.now) (directive_named (view_directive shown x.now).name.item)) c.args.directives.now.items old
    c.loop-index.index (view_sites shown c.loop-index.sites.items) past c.loop-index.invariant
    ∙ ap (λ l. old ++ l) (flat-seen (λ x. view_directive shown x.now) (λ y. directive_site y (directive_named y.name.item)) c.args.directives.now.items)
