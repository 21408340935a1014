use Rattle.std.proofs.Common.{◌≡◌, IsTrue, [], ap, refl, subst, sym}
use Rattle.graphql_spec.specs.Executable.{is_executable}
use Rattle.graphql_spec.specs.Rules.{rule_errors}
use Rattle.juniper_intro.specs.RootView.{is_disabled, resolver_of, view_node_of}
use Rattle.juniper_schema.specs.SchemaView.{view_schema}
use Rattle.juniper_syntax.specs.DocumentView.{view_document, view_operation}
use Rattle.juniper_syntax.specs.InputView.{view_variables}
use Rattle.juniper.specs.Answering.{outcome_of}
use Rattle.juniper.proofs.Bounded.{spends-so, within-answers}
use Rattle.juniper.proofs.RootOutcomes.{outcome-moved, over-moved}
use Rattle.juniper.proofs.execute.execute_walked.Goals as goal

pub execute_root-requires-clause-executable : goal.execute_root-requires-clause-executable
execute_root-requires-clause-executable g c =
    subst (λ s. IsTrue (is_executable s)) (sym (ap (view_schema g.S.ScalarValue.shown) c.schema-schema.ensures)) c.root_replies.ensures.executable

pub execute_root-requires-clause-valid : goal.execute_root-requires-clause-valid
execute_root-requires-clause-valid g c =
    let shown = g.S.ScalarValue.shown in
    let disabled = is_disabled c.args.root_node.now in (
      disabled,
      subst (λ s. rule_errors s disabled (view_document shown c.args.document.now) ≡ []) (sym (ap (view_schema shown) c.schema-schema.ensures)) c.requires.valid,
    )

pub returns-clause-answers : goal.returns-clause-answers
returns-clause-answers g c =
    let shown = g.S.ScalarValue.shown in
    let root = c.args.root_node.now in
    let d = view_document shown c.args.document.now in
    let o = view_operation shown c.args.operation.now in
    let given = view_variables shown c.args.variables.now in
    let law = c.root_replies.ensures in
    within-answers _ _
    (λ r p. outcome-moved g.Q.GraphQLValue.concrete g.Q.GraphQLValue.answer g.Q.GraphQLValue.root g.M.GraphQLMutationValue.step g.M.GraphQLMutationValue.torn
    _ _ _ (view_node_of shown root) (resolver_of root) _ law.types law.replies law.top law.users c.args.walking (is_disabled root) _ _ _ _ _ _ _ _
    (ap (view_schema shown) c.schema-schema.ensures) c.query_info.ensures c.mutation.ensures c.mutation_info.ensures refl
    (λ x. outcome_of x d o given) c.args.context.now r c.execute_root.new.context p)
    shown c.execute_root.result (c.execute_root.ensures.answers (is_disabled root))

pub returns-clause-spent : goal.returns-clause-spent
returns-clause-spent g c =
    let shown = g.S.ScalarValue.shown in
    let root = c.args.root_node.now in
    let d = view_document shown c.args.document.now in
    let o = view_operation shown c.args.operation.now in
    let given = view_variables shown c.args.variables.now in
    let law = c.root_replies.ensures in
    spends-so _ _
    (λ n p. over-moved g.Q.GraphQLValue.concrete g.Q.GraphQLValue.answer g.Q.GraphQLValue.root g.M.GraphQLMutationValue.step g.M.GraphQLMutationValue.torn
    _ _ _ (view_node_of shown root) (resolver_of root) _ law.types law.replies law.top law.users (is_disabled root) _ _ _ _ _ _ _ _
    (ap (view_schema shown) c.schema-schema.ensures) c.query_info.ensures c.mutation.ensures c.mutation_info.ensures refl
    (λ x. outcome_of x d o given) c.args.context.now n p)
    c.args.fields c.execute_root.result (c.execute_root.ensures.spent (is_disabled root))
