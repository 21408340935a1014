use Rattle.juniper_execute.specs.declared.walking.Walking.TheVariants.{Grouped}
use Rattle.juniper_intro.specs.RootView.{schema_of}
use Rattle.juniper_schema.specs.SchemaView.{view_schema}
use Rattle.juniper.specs.Answering.{outcome_in}
use Rattle.juniper.specs.Promised.{IsFullOutcomeOf}
use Rattle.juniper.specs.RootView.{service_of}
use Rattle.juniper.specs.WalkedOutcomes.{IsWalkedOutcome}
use Rattle.juniper.proofs.Bounded.{unspent, walked-full, without-budget}
use Rattle.juniper.proofs.execute.execute_validated_query.Goals as goal

pub returns-in-Err : goal.returns-in-Err
returns-in-Err g c =
    let shown = g.S.ScalarValue.shown in
    let root = c.args.root_node.now in
    let S = service_of g.Q.GraphQLValue.concrete g.Q.GraphQLValue.answer g.Q.GraphQLValue.root g.M.GraphQLMutationValue.step g.M.GraphQLMutationValue.torn shown
    root in
    let x = outcome_in shown (view_schema shown (schema_of root)) c.args.document.now c.args.operation.now c.args.variables.now in
    let before = c.args.context.now in
    let after = c.execute_walked.new.context in
    without-budget (λ r. IsWalkedOutcome S Grouped x before r after) (λ r. IsFullOutcomeOf S x before r after)
    (λ r p. walked-full S x before r after p) c.in-Err.within _ c.into_error.ensures c.in-Err.ensures.answers

pub returns-in-Ok : goal.returns-in-Ok
returns-in-Ok g c = c.in-Ok.ensures.answers

pub into_error-requires : goal.into_error-requires
into_error-requires g c = unspent _ c.in-Err.within c.in-Err.ensures.spent
