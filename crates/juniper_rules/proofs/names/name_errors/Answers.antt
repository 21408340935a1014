use Rattle.std.proofs.Common.{[], ap, map, subst, sym, take, ◌∙◌}
use Rattle.graphql_spec.specs.Rules.{at_each, name_errors}
use Rattle.juniper_written.specs.NamesBefore.{IsEarlier}
use Rattle.juniper_syntax.specs.RuleView.{view_rule_error}
use Rattle.juniper_schema.specs.SchemaView.{view_schema}
use Rattle.juniper_syntax.specs.DocumentView.{view_definition}
use Rattle.juniper_rules.specs.Listing.{definition_of}
use Rattle.juniper_rules.proofs.AtEach.{earlier-is, found-all, found-first, found-next}
use Rattle.juniper_rules.proofs.Listing.{definitions-are, listed-at}
use Rattle.juniper_rules.proofs.names.name_errors.Goals as goal

pub loop-one-init : goal.loop-one-init
loop-one-init g c =
    let shown = g.S.ScalarValue.shown in (
      c.new-earlier.ensures,
      λ disabled listed fragments. found-first (definition_of shown)
          (name_errors (view_schema shown c.args.schema.now) disabled (map (view_definition shown) c.args.document.now)) c.args.listed.now _
          (ap (map view_rule_error) c.new-errors.ensures.items),
    )

pub loop-one-preserved : goal.loop-one-preserved
loop-one-preserved g c =
    let shown = g.S.ScalarValue.shown in
    let d = map (view_definition shown) c.args.document.now in
    let xs = c.args.listed.now in
    let i = c.loop-one.one-index in
    let before = map (definition_of shown) (take i xs) in (
      subst (λ ds. IsEarlier c.add.new.self ds) (sym (earlier-is (definition_of shown) xs i c.one-item.result c.loop-one-test.true c.one-item.is))
          (c.in_ok-add.ensures before c.loop-one.invariant.0),
      λ disabled listed fragments. found-next (definition_of shown) (name_errors (view_schema shown c.args.schema.now) disabled d) xs i
          c.one-item.result c.loop-one-test.true c.one-item.is
          (map view_rule_error c.loop-one.errors.items) _ (c.in_ok-find_names.ensures disabled d before fragments
          c.count_operations-operation_count.ensures c.loop-one.invariant.0
          (listed-at shown xs d listed i c.one-item.result c.loop-one-test.true c.one-item.is)) (c.loop-one.invariant.1 disabled listed fragments),
    )

pub returns : goal.returns
returns g c disabled listed fragments =
    let shown = g.S.ScalarValue.shown in
    let d = map (view_definition shown) c.args.document.now in
    let f = name_errors (view_schema shown c.args.schema.now) disabled d in
    found-all (definition_of shown) f c.args.listed.now c.loop-one.one-index c.loop-one-test.false _ (c.loop-one.invariant.1 disabled listed fragments)
    ∙ ap (at_each f []) (definitions-are shown c.args.listed.now d listed)
