use Rattle.juniper.specs.Answering.{request_of}
use Rattle.juniper.specs.Promised.{IsFullOutcome}
use Rattle.juniper.specs.RootView.{service_of}
use Rattle.std.proofs.lemmas.Grind.{not_there}
use Rattle.juniper.proofs.Bounded.{unspent, without-budget}
use Rattle.juniper.proofs.preparing.execute_prepared.Goals as goal

pub returns-in-Err : goal.returns-in-Err
returns-in-Err g c = λ read.
    let shown = g.S.ScalarValue.shown in
    let prepared = c.args.prepared.now in
    let S = service_of g.Q.GraphQLValue.concrete g.Q.GraphQLValue.answer g.Q.GraphQLValue.root g.M.GraphQLMutationValue.step g.M.GraphQLMutationValue.torn shown
    prepared.root.now in
    let q = request_of shown prepared.text.now c.args.operation_name c.args.variables.now in
    without-budget (λ r. IsFullOutcome S q c.args.context.now r c.execute_prepared_within.new.context)
    (λ r. IsFullOutcome S q c.args.context.now r c.execute_prepared_within.new.context) (λ r p. p) c.in-Err.within _ c.into_error.ensures
    (c.in-Err.ensures.answers read)

pub returns-in-Ok : goal.returns-in-Ok
returns-in-Ok g c = λ read. c.in-Ok.ensures.answers read

pub into_error-requires : goal.into_error-requires
into_error-requires g c = λ spent. not_there c.args.prepared.now.reads (λ read. unspent _ c.in-Err.within (c.in-Err.ensures.spent read) spent)
