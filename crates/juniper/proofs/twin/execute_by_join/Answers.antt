use Rattle.graphql_spec.specs.ExactAnswers.{whole}
use Rattle.graphql_spec.specs.Outcomes.{IsOutcomeOf}
use Rattle.juniper_intro.specs.RootView.{schema_of}
use Rattle.juniper_schema.specs.SchemaView.{view_schema}
use Rattle.juniper_syntax.specs.DocumentView.{view_document, view_operation}
use Rattle.juniper_syntax.specs.InputView.{view_variables}
use Rattle.juniper.specs.Answering.{outcome_of}
use Rattle.juniper.specs.RootView.{service_of}
use Rattle.juniper.specs.WalkedOutcomes.{IsWalkedOutcome}
use Rattle.juniper_execute.specs.declared.walking.Walking.TheVariants.{Joined}
use Rattle.juniper.proofs.Bounded.{unspent, without-budget}
use Rattle.juniper.proofs.twin.execute_by_join.Goals as goal

pub returns-in-Err : goal.returns-in-Err
returns-in-Err g c =
    let shown = g.S.ScalarValue.shown in
    let root = c.args.root_node.now in
    let S = service_of g.Q.GraphQLValue.concrete g.Q.GraphQLValue.answer g.Q.GraphQLValue.root g.M.GraphQLMutationValue.step g.M.GraphQLMutationValue.torn shown
    root in
    let x = outcome_of (view_schema shown (schema_of root)) (view_document shown c.args.document.now) (view_operation shown c.args.operation.now)
    (view_variables shown c.args.variables.now) in
    let after = c.execute_walked.new.context in
    without-budget (λ r. IsWalkedOutcome S Joined x c.args.context.now r after) (λ r. IsOutcomeOf S whole x c.args.context.now r after)
    (λ r p. p.0) c.in-Err.within _ c.into_error.ensures c.in-Err.ensures.answers

pub returns-in-Ok : goal.returns-in-Ok
returns-in-Ok g c = c.in-Ok.ensures.answers.0

pub into_error-requires : goal.into_error-requires
into_error-requires g c = unspent _ c.in-Err.within c.in-Err.ensures.spent
