use Rattle.std.proofs.Common.{ap, subst}
use Rattle.juniper_schema.specs.SchemaView.{view_schema}
use Rattle.juniper_syntax.specs.DocumentView.{view_document, view_operation}
use Rattle.juniper_syntax.specs.InputView.{view_variables}
use Rattle.juniper_execute.specs.Meanings.{is_undeclared}
use Rattle.juniper.specs.Answering.{outcome_of}
use Rattle.juniper.specs.Budgets.{AnswersWithin, IsRunOver, SpendsOnly}
use Rattle.juniper.specs.Services.{meaning_of, service_at}
use Rattle.juniper.specs.WalkedOutcomes.{IsWalkedOutcome}
use Rattle.juniper.proofs.execute.execute_resolved.Goals as goal

pub invariant_of-served : goal.invariant_of-served
unfolding is_undeclared
invariant_of-served g c = record { executable = c.requires.executable; unnamed = ap is_undeclared c.undeclared_type-undeclared.ensures }

pub returns-clause-answers : goal.returns-clause-answers
returns-clause-answers g c = λ disabled.
    let shown = g.S.ScalarValue.shown in
    let s = view_schema shown c.args.schema.now in
    let query = c.args.resolver.now in
    let meaning = meaning_of g.Q.GraphQLValue.concrete g.Q.GraphQLValue.answer query.query.now query.info.now in
    let steps = g.M.MutationSteps.steps c.args.steps.now in
    subst (λ n. AnswersWithin shown (λ r. IsWalkedOutcome (service_at meaning steps n s disabled) c.args.walking
    (outcome_of s (view_document shown c.args.document.now) (view_operation shown c.args.operation.now) (view_variables shown c.args.variables.now))
    c.args.context.now r c.execute_operation.new.context) c.execute_operation.result) c.root_node-root.ensures (c.execute_operation.ensures.answers disabled)

pub returns-clause-spent : goal.returns-clause-spent
returns-clause-spent g c = λ disabled.
    let shown = g.S.ScalarValue.shown in
    let s = view_schema shown c.args.schema.now in
    let query = c.args.resolver.now in
    let meaning = meaning_of g.Q.GraphQLValue.concrete g.Q.GraphQLValue.answer query.query.now query.info.now in
    let steps = g.M.MutationSteps.steps c.args.steps.now in
    subst (λ n. SpendsOnly c.args.fields (IsRunOver (service_at meaning steps n s disabled)
    (outcome_of s (view_document shown c.args.document.now) (view_operation shown c.args.operation.now) (view_variables shown c.args.variables.now))
    c.args.context.now) c.execute_operation.result) c.root_node-root.ensures (c.execute_operation.ensures.spent disabled)
