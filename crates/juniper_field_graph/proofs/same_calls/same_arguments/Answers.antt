use Rattle.std.proofs.Common.{ap, ◌∙◌}
use Rattle.graphql_spec.specs.Documents.{written}
use Rattle.juniper_syntax.specs.DocumentView.{view_arguments}
use Rattle.juniper_field_graph.specs.NamedValues.{as_fields, view_named}
use Rattle.juniper_field_graph.proofs.NamedValues.{named-arguments}
use Rattle.juniper_field_graph.proofs.SameArguments.{first-matched, one-differs}
use Rattle.juniper_field_graph.proofs.same_calls.same_arguments.Goals as goal

pub returns-then-all_matched : goal.returns-then-all_matched
returns-then-all_matched g c =
    let shown = g.S.ScalarValue.shown in
    let xs = c.written-arguments.result.now in
    let ys = c.written-others.result.now in
    first-matched (written (view_arguments shown c.args.first.now)) (written (view_arguments shown c.args.second.now)) (view_named (λ n. n.now) shown xs)
    (view_named (λ n. n.now) shown ys)
    (named-arguments shown xs ∙ ap as_fields c.written-arguments.ensures) (named-arguments shown ys ∙ ap as_fields c.written-others.ensures)
    c.all_matched.result c.all_named.result c.all_matched.ensures c.if-all_matched.true c.all_named.ensures

pub returns-else-all_matched : goal.returns-else-all_matched
returns-else-all_matched g c =
    let shown = g.S.ScalarValue.shown in
    let xs = c.written-arguments.result.now in
    let ys = c.written-others.result.now in
    one-differs (written (view_arguments shown c.args.first.now)) (written (view_arguments shown c.args.second.now)) (view_named (λ n. n.now) shown xs)
    (view_named (λ n. n.now) shown ys)
    (named-arguments shown xs ∙ ap as_fields c.written-arguments.ensures) (named-arguments shown ys ∙ ap as_fields c.written-others.ensures)
    c.all_matched.result c.all_matched.ensures c.if-all_matched.false
