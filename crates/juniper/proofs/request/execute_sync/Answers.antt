use Rattle.juniper.specs.Answering.{request_of}
use Rattle.juniper.specs.Promised.{IsFullOutcome}
use Rattle.juniper.specs.RootView.{service_of}
use Rattle.juniper.proofs.Bounded.{unspent, without-budget}
use Rattle.juniper.proofs.request.execute_sync.Goals as goal

pub returns-in-Err : goal.returns-in-Err
returns-in-Err g c =
    let shown = g.S.ScalarValue.shown in
    let S = service_of g.Q.GraphQLValue.concrete g.Q.GraphQLValue.answer g.Q.GraphQLValue.root g.M.GraphQLMutationValue.step g.M.GraphQLMutationValue.torn shown
    c.args.root_node.now in
    let q = request_of shown c.args.document_source.now c.args.operation_name c.args.variables.now in
    without-budget (λ r. IsFullOutcome S q c.args.context.now r c.execute_within.new.context)
    (λ r. IsFullOutcome S q c.args.context.now r c.execute_within.new.context) (λ r p. p) c.in-Err.within _ c.into_error.ensures c.in-Err.ensures.answers

pub returns-in-Ok : goal.returns-in-Ok
returns-in-Ok g c = c.in-Ok.ensures.answers

pub into_error-requires : goal.into_error-requires
into_error-requires g c = unspent _ c.in-Err.within c.in-Err.ensures.spent
