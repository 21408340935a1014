use Rattle.std.proofs.Common.{[], ◌≡◌, option_map, subst, ap}
use Rattle.graphql_spec.specs.Introspection.{rooted_service}
use Rattle.graphql_spec.specs.Outcomes.{Request}
use Rattle.graphql_spec.specs.Rules.{rule_errors}
use Rattle.juniper_syntax.specs.DocumentView.{view_document}
use Rattle.juniper_syntax.specs.InputView.{view_variables}
use Rattle.juniper_intro.specs.RootView.{schema_of}
use Rattle.juniper_schema.specs.SchemaView.{view_schema}
use Rattle.juniper.specs.Answering.{IsInvalid, StandsFor}
use Rattle.juniper.specs.RequestErrors.{view_request_error}
use Rattle.juniper.specs.RootView.{service_of}
use Rattle.juniper.proofs.Composing.{at-parse, at-validate, refused-full}
use Rattle.juniper.proofs.request.execute_within.Goals as goal

pub returns-in-Err-clause-answers : goal.returns-in-Err-clause-answers
unfolding rooted_service
returns-in-Err-clause-answers g c =
    let shown = g.S.ScalarValue.shown in
    let root = c.args.root_node.now in
    let S = service_of g.Q.GraphQLValue.concrete g.Q.GraphQLValue.answer g.Q.GraphQLValue.root g.M.GraphQLMutationValue.step g.M.GraphQLMutationValue.torn shown
    root in
    let q : Request = record {
      text = c.args.document_source.now;
      operation = option_map (λ n. n.now) c.args.operation_name;
      variables = view_variables shown c.args.variables.now;
    } in
    refused-full S q c.args.context.now (view_request_error c.in-Err.error)
    (at-parse S q c.args.context.now (view_request_error c.in-Err.error) c.in-Err.ensures)

pub returns-in-Err-check_document-clause-answers : goal.returns-in-Err-check_document-clause-answers
unfolding rooted_service
returns-in-Err-check_document-clause-answers g c =
    let shown = g.S.ScalarValue.shown in
    let root = c.args.root_node.now in
    let s = view_schema shown (schema_of root) in
    let S = service_of g.Q.GraphQLValue.concrete g.Q.GraphQLValue.answer g.Q.GraphQLValue.root g.M.GraphQLMutationValue.step g.M.GraphQLMutationValue.torn shown
    root in
    let same = ap (view_schema shown) c.schema.ensures in
    let off = c.is_introspection_disabled.ensures in
    let q : Request = record {
      text = c.args.document_source.now;
      operation = option_map (λ n. n.now) c.args.operation_name;
      variables = view_variables shown c.args.variables.now;
    } in
    let d = view_document shown c.in-Ok.document in
    let read = c.in-Ok.ensures in
    let e = view_request_error c.in-Err-check_document.error in
    refused-full S q c.args.context.now e
    (at-validate S q c.args.context.now d read e (subst (λ b. StandsFor (IsInvalid s b d) e) off
    (subst (λ x. StandsFor (IsInvalid x c.is_introspection_disabled.result d) e) same c.in-Err-check_document.ensures)))

pub execute_document-requires : goal.execute_document-requires
execute_document-requires g c =
    let shown = g.S.ScalarValue.shown in
    let d = view_document shown c.in-Ok.document in
    subst (λ b. rule_errors (view_schema shown (schema_of c.args.root_node.now)) b d ≡ []) c.is_introspection_disabled.ensures
    (subst (λ x. rule_errors x c.is_introspection_disabled.result d ≡ []) (ap (view_schema shown) c.schema.ensures) c.in-Ok-check_document.ensures)

pub returns-in-Err-execute_document-clause-answers : goal.returns-in-Err-execute_document-clause-answers
returns-in-Err-execute_document-clause-answers g c = c.in-Err-execute_document.ensures.answers c.args.document_source.now c.in-Ok.ensures

pub returns-clause-answers : goal.returns-clause-answers
returns-clause-answers g c = c.in-Ok-execute_document.ensures.answers c.args.document_source.now c.in-Ok.ensures

pub returns-in-Err-execute_document-clause-spent : goal.returns-in-Err-execute_document-clause-spent
returns-in-Err-execute_document-clause-spent g c = c.in-Err-execute_document.ensures.spent c.args.document_source.now c.in-Ok.ensures
