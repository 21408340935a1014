use Rattle.std.proofs.Common.{◌≡◌, None}
use Rattle.juniper_syntax.specs.InputView.{view_variables}
use Rattle.juniper.specs.RootView.{service_of}
use Rattle.juniper.proofs.Asking.{asked-as}
use Rattle.juniper.proofs.introspection.introspect.Goals as goal

pub returns : goal.returns
returns g c =
    let shown = g.S.ScalarValue.shown in
    let S = service_of g.Q.GraphQLValue.concrete g.Q.GraphQLValue.answer g.Q.GraphQLValue.root g.M.GraphQLMutationValue.step g.M.GraphQLMutationValue.torn shown
    c.args.root_node.now in
    let none : view_variables shown c.no_variables-variables.result ≡ (λ name. None) = λ i n. (c.no_variables-variables.ensures n) i in
    asked-as shown S c.args.context.now _ c.execute_sync.result c.args.format c.query_text.result.now _ c.query_text.ensures none c.execute_sync.ensures
