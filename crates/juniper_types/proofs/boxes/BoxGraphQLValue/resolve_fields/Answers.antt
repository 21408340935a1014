use Rattle.std.proofs.Common.{map, subst}
use Rattle.std.specs.Prelude.{IfOk}
use Rattle.juniper_values.specs.ResolvedView.{AllAnswer}
use Rattle.juniper_types.specs.ExecutorView.{context_of}
use Rattle.juniper_values.specs.ArgumentView.{view_arguments}
use Rattle.juniper_types.proofs.boxes.BoxGraphQLValue.resolve_fields.Goals as goal

pub returns : goal.returns
returns g c =
    let shown = g.S.ScalarValue.shown in
    subst (λ inside. IfOk c.resolve_fields.result (λ made. AllAnswer shown
    (λ node. g.T.GraphQLValue.answer inside c.args.info.now (context_of c.args.executor.now) node c.args.field_name.now
    (view_arguments shown c.args.arguments.now)) (map (λ n. n.now) c.args.nodes.now) made.items)) c.deref.ensures c.resolve_fields.ensures
