use Rattle.std.proofs.Common.{[], ap, map, take, ◌∙◌}
use Rattle.graphql_spec.specs.Rules.{at_each, type_errors}
use Rattle.juniper_syntax.specs.RuleView.{view_rule_error}
use Rattle.juniper_schema.specs.SchemaView.{view_schema}
use Rattle.juniper_rules.specs.Listing.{definition_of}
use Rattle.juniper_rules.proofs.AtEach.{found-all, found-first, found-next}
use Rattle.juniper_rules.proofs.Listing.{definitions-on-types, on-types-at}
use Rattle.juniper_rules.proofs.types.type_errors.Goals as goal

pub loop-one-init : goal.loop-one-init
loop-one-init g c = λ disabled d are.
    let shown = g.S.ScalarValue.shown in
    found-first (λ x. definition_of shown x.listed.now) (type_errors (view_schema shown c.args.schema.now) disabled d) c.args.listed.now _
    (ap (map view_rule_error) c.new-errors.ensures.items)

pub loop-one-preserved : goal.loop-one-preserved
loop-one-preserved g c = λ disabled d are.
    let shown = g.S.ScalarValue.shown in
    let s = view_schema shown c.args.schema.now in
    let xs = c.args.listed.now in
    let i = c.loop-one.one-index in
    found-next (λ x. definition_of shown x.listed.now) (type_errors s disabled d) xs i c.one-item.result c.loop-one-test.true c.one-item.is
    (map view_rule_error c.loop-one.errors.items) _
    (c.in_ok-find_types.ensures disabled d (map (λ x. definition_of shown x.listed.now) (take i xs))
    (on-types-at shown s xs d are i c.one-item.result c.loop-one-test.true c.one-item.is)) (c.loop-one.invariant disabled d are)

pub returns : goal.returns
returns g c = λ disabled d are.
    let shown = g.S.ScalarValue.shown in
    let s = view_schema shown c.args.schema.now in
    let f = type_errors s disabled d in
    found-all (λ x. definition_of shown x.listed.now) f c.args.listed.now c.loop-one.one-index c.loop-one-test.false _ (c.loop-one.invariant disabled d are)
    ∙ ap (at_each f []) (definitions-on-types shown s c.args.listed.now d are)
