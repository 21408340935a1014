use Rattle.graphql_spec.specs.Documents.{written}
use Rattle.juniper_syntax.specs.DocumentView.{view_field}
use Rattle.juniper_field_graph.proofs.SameArguments.{calls-told}
use Rattle.juniper_field_graph.proofs.same_calls.same_call.Goals as goal

pub returns-then-eq : goal.returns-then-eq
returns-then-eq g c =
    let one = view_field g.S.ScalarValue.shown c.args.first.now in
    let other = view_field g.S.ScalarValue.shown c.args.second.now in
    calls-told one.name.item other.name.item (written one.arguments)
    (written other.arguments) c.eq.result c.same_arguments.result c.eq.ensures c.if-eq.true c.same_arguments.ensures
