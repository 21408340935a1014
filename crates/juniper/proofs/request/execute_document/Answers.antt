use Rattle.std.proofs.Common.{option_map, map, refl, subst, ap}
use Rattle.graphql_spec.specs.Introspection.{rooted_service}
use Rattle.graphql_spec.specs.Outcomes.{IsReadAsValid, responds}
use Rattle.graphql_spec.specs.Requests.{choose}
use Rattle.graphql_spec.proofs.ValidRuns.{choice-in}
use Rattle.juniper_syntax.specs.DocumentView.{view_document, view_operation}
use Rattle.juniper_syntax.specs.InputView.{view_variables}
use Rattle.juniper_syntax.specs.ValueView.{view_value}
use Rattle.juniper_conversions.specs.ErrorView.{view_listed}
use Rattle.juniper_intro.specs.RootView.{schema_of}
use Rattle.juniper_schema.specs.SchemaView.{view_schema}
use Rattle.juniper.specs.Answering.{AreCoercible, AreRefused, StandsFor, outcome_of, request_of}
use Rattle.juniper.specs.Promised.{IsFullOutcome}
use Rattle.juniper.specs.RequestErrors.{view_request_error}
use Rattle.juniper.specs.RootView.{service_of}
use Rattle.juniper.specs.WalkedOutcomes.{IsWalkedOutcome}
use Rattle.juniper_execute.specs.declared.walking.Walking.TheVariants.{Grouped}
use Rattle.juniper.specs.Budgets.{IsRunOver, RunsOver}
use Rattle.juniper.proofs.Bounded.{spent-so, walked-full, within-refuses}
use Rattle.juniper.proofs.Composing.{at-choose, at-coerce, full-execute, refused-full, run-becomes}
use Rattle.juniper.proofs.request.execute_document.Goals as goal

pub returns-in-Err-clause-answers : goal.returns-in-Err-clause-answers
unfolding rooted_service
returns-in-Err-clause-answers g c = λ text read.
    let shown = g.S.ScalarValue.shown in
    let root = c.args.root_node.now in
    let s = view_schema shown (schema_of root) in
    let S = service_of g.Q.GraphQLValue.concrete g.Q.GraphQLValue.answer g.Q.GraphQLValue.root g.M.GraphQLMutationValue.step g.M.GraphQLMutationValue.torn shown
    root in
    let q = request_of shown text c.args.operation_name c.args.variables.now in
    let d = view_document shown c.args.document.now in
    let valid : IsReadAsValid S q d = (read, c.requires) in
    refused-full S q c.args.context.now (view_request_error c.in-Err.error)
    (at-choose S q c.args.context.now d read valid (choose d q.operation) refl (view_request_error c.in-Err.error) c.in-Err.ensures)

pub returns-in-Err-check_variables-clause-answers : goal.returns-in-Err-check_variables-clause-answers
unfolding rooted_service
returns-in-Err-check_variables-clause-answers g c = λ text read.
    let shown = g.S.ScalarValue.shown in
    let root = c.args.root_node.now in
    let s = view_schema shown (schema_of root) in
    let S = service_of g.Q.GraphQLValue.concrete g.Q.GraphQLValue.answer g.Q.GraphQLValue.root g.M.GraphQLMutationValue.step g.M.GraphQLMutationValue.torn shown
    root in
    let q = request_of shown text c.args.operation_name c.args.variables.now in
    let d = view_document shown c.args.document.now in
    let valid : IsReadAsValid S q d = (read, c.requires) in
    let o = view_operation shown c.in-Ok.operation.now in
    let e = view_request_error c.in-Err-check_variables.error in
    refused-full S q c.args.context.now e
    (at-coerce S q c.args.context.now d read valid o c.in-Ok.ensures e
    (subst (λ x. StandsFor (AreRefused x o q.variables) e) (ap (view_schema shown) c.schema.ensures) c.in-Err-check_variables.ensures))

pub execute_walked-requires-clause-member : goal.execute_walked-requires-clause-member
execute_walked-requires-clause-member g c =
    let shown = g.S.ScalarValue.shown in
    choice-in (view_document shown c.args.document.now) (option_map (λ n. n.now) c.args.operation_name) (view_operation shown c.in-Ok.operation.now)
    c.in-Ok.ensures

pub execute_walked-requires-clause-coercible : goal.execute_walked-requires-clause-coercible
execute_walked-requires-clause-coercible g c =
    let shown = g.S.ScalarValue.shown in
    subst (λ x. AreCoercible x (view_operation shown c.in-Ok.operation.now) (view_variables shown c.args.variables.now))
    (ap (view_schema shown) c.schema.ensures) c.in-Ok-check_variables.ensures

pub returns-in-Err-execute_walked-clause-answers : goal.returns-in-Err-execute_walked-clause-answers
unfolding rooted_service
returns-in-Err-execute_walked-clause-answers g c = λ text read.
    let shown = g.S.ScalarValue.shown in
    let root = c.args.root_node.now in
    let s = view_schema shown (schema_of root) in
    let S = service_of g.Q.GraphQLValue.concrete g.Q.GraphQLValue.answer g.Q.GraphQLValue.root g.M.GraphQLMutationValue.step g.M.GraphQLMutationValue.torn shown
    root in
    let q = request_of shown text c.args.operation_name c.args.variables.now in
    let d = view_document shown c.args.document.now in
    let valid : IsReadAsValid S q d = (read, c.requires) in
    let o = view_operation shown c.in-Ok.operation.now in
    let fits : AreCoercible s o q.variables =
    subst (λ x. AreCoercible x o q.variables) (ap (view_schema shown) c.schema.ensures) c.in-Ok-check_variables.ensures in
    let after = c.execute_walked.new.context in
    within-refuses (λ r. IsWalkedOutcome S Grouped (outcome_of s d o q.variables) c.args.context.now r after)
    (λ r. IsFullOutcome S q c.args.context.now r after)
    (λ r p. full-execute S q c.args.context.now d read valid o c.in-Ok.ensures fits r after
    (walked-full S (outcome_of s d o q.variables) c.args.context.now r after p))
    c.in-Err-execute_walked.within c.in-Err-execute_walked.ensures.answers

pub returns-in-Ok-execute_walked-clause-answers : goal.returns-in-Ok-execute_walked-clause-answers
unfolding rooted_service
returns-in-Ok-execute_walked-clause-answers g c = λ text read.
    let shown = g.S.ScalarValue.shown in
    let root = c.args.root_node.now in
    let s = view_schema shown (schema_of root) in
    let S = service_of g.Q.GraphQLValue.concrete g.Q.GraphQLValue.answer g.Q.GraphQLValue.root g.M.GraphQLMutationValue.step g.M.GraphQLMutationValue.torn shown
    root in
    let q = request_of shown text c.args.operation_name c.args.variables.now in
    let d = view_document shown c.args.document.now in
    let valid : IsReadAsValid S q d = (read, c.requires) in
    let o = view_operation shown c.in-Ok.operation.now in
    let fits : AreCoercible s o q.variables =
    subst (λ x. AreCoercible x o q.variables) (ap (view_schema shown) c.schema.ensures) c.in-Ok-check_variables.ensures in
    let answered = c.in-Ok-execute_walked.answered in
    full-execute S q c.args.context.now d read valid o c.in-Ok.ensures fits (responds (view_value shown answered.0) (map (view_listed shown) answered.1.items))
    c.execute_walked.new.context c.in-Ok-execute_walked.ensures.answers

pub returns-in-Err-clause-spent : goal.returns-in-Err-clause-spent
returns-in-Err-clause-spent g c = λ text read. tt

pub returns-in-Err-check_variables-clause-spent : goal.returns-in-Err-check_variables-clause-spent
returns-in-Err-check_variables-clause-spent g c = λ text read. tt

pub returns-in-Ok-execute_walked-clause-spent : goal.returns-in-Ok-execute_walked-clause-spent
returns-in-Ok-execute_walked-clause-spent g c = λ text read. tt

pub returns-in-Err-execute_walked-clause-spent : goal.returns-in-Err-execute_walked-clause-spent
unfolding rooted_service
returns-in-Err-execute_walked-clause-spent g c = λ text read.
    let shown = g.S.ScalarValue.shown in
    let root = c.args.root_node.now in
    let s = view_schema shown (schema_of root) in
    let S = service_of g.Q.GraphQLValue.concrete g.Q.GraphQLValue.answer g.Q.GraphQLValue.root g.M.GraphQLMutationValue.step g.M.GraphQLMutationValue.torn shown
    root in
    let q = request_of shown text c.args.operation_name c.args.variables.now in
    let d = view_document shown c.args.document.now in
    let valid : IsReadAsValid S q d = (read, c.requires) in
    let o = view_operation shown c.in-Ok.operation.now in
    let fits : AreCoercible s o q.variables =
    subst (λ x. AreCoercible x o q.variables) (ap (view_schema shown) c.schema.ensures) c.in-Ok-check_variables.ensures in
    spent-so (IsRunOver S (outcome_of s d o q.variables) c.args.context.now) (RunsOver S q c.args.context.now)
    (run-becomes S q c.args.context.now d read valid o c.in-Ok.ensures fits) c.args.fields c.in-Err-execute_walked.within c.in-Err-execute_walked.ensures.spent
