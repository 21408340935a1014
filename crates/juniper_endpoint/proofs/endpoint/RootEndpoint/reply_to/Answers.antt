use Rattle.std.proofs.Common.{◌≡◌, ◌==◌, map, refl, ap, subst, ◌∙◌}
use Rattle.graphql_spec.specs.Introspection.{rooted_service}
use Rattle.graphql_spec.specs.Rules.{rule_errors}
use Rattle.juniper.specs.RootView.{service_of}
use Rattle.juniper_intro.specs.RootView.{is_disabled, schema_of}
use Rattle.juniper_request.specs.Requests.{view_request}
use Rattle.juniper_schema.specs.SchemaView.{view_schema}
use Rattle.juniper_syntax.specs.DocumentView.{view_document}
use Rattle.juniper_syntax.specs.RuleView.{view_rule_error}
use Rattle.juniper_syntax.specs.Scalars.{default_shown}
use Rattle.juniper_endpoint.proofs.Looking.{none_found, some_found}
use Rattle.juniper_endpoint.proofs.Telling.{invalid-told, memory-told}
use Rattle.juniper_endpoint.specs.Looks.{IsInvalidTold}
use Rattle.juniper_endpoint.proofs.endpoint.RootEndpoint.reply_to.Goals as goal

pub reply_valid-requires-clause-valid : goal.reply_valid-requires-clause-valid
reply_valid-requires-clause-valid g c =
    let root = c.args.self.now.root.now in
    let d = view_document default_shown c.args.document.now in
    let es = c.in-Ok.errors.items in
    let seen : map view_rule_error es ≡ rule_errors (view_schema default_shown (schema_of root)) (is_disabled root) d =
    subst (λ b. map view_rule_error es ≡ rule_errors (view_schema default_shown (schema_of root)) b d) c.is_introspection_disabled.ensures
    (subst (λ x. map view_rule_error es ≡ rule_errors x c.is_introspection_disabled.result d) (ap (view_schema default_shown) c.schema.ensures)
    c.in-Ok.ensures) in
    none_found view_rule_error es c.is_empty.result _ (c.is_empty.ensures ∙ ap (λ n. n == 0) c.in-Ok.errors.ok.0) seen c.if-is_empty.true

pub returns-in-Err-clause-said : goal.returns-in-Err-clause-said
returns-in-Err-clause-said g c =
    let q = g.Q.GraphQLValue in
    let m = g.M.GraphQLMutationValue in
    let self = c.args.self.now in
    memory-told (service_of q.concrete q.answer q.root m.step m.torn default_shown self.root.now) self.bounds (view_request c.args.request.now)
    self.explained_bytes c.args.may_write self.context self.entered_fields self.context refl c.without_memory.result c.without_memory.ensures

pub returns-then-is_empty-clause-said : goal.returns-then-is_empty-clause-said
unfolding rooted_service
returns-then-is_empty-clause-said g c =
    let root = c.args.self.now.root.now in
    let d = view_document default_shown c.args.document.now in
    let es = c.in-Ok.errors.items in
    let seen : map view_rule_error es ≡ rule_errors (view_schema default_shown (schema_of root)) (is_disabled root) d =
    subst (λ b. map view_rule_error es ≡ rule_errors (view_schema default_shown (schema_of root)) b d) c.is_introspection_disabled.ensures
    (subst (λ x. map view_rule_error es ≡ rule_errors x c.is_introspection_disabled.result d) (ap (view_schema default_shown) c.schema.ensures)
    c.in-Ok.ensures) in
    c.reply_valid.ensures c.args.self.now.bounds (ap (view_schema default_shown) c.schema.ensures, c.is_introspection_disabled.ensures)
    (c.requires.within, none_found view_rule_error es c.is_empty.result _ (c.is_empty.ensures ∙ ap (λ n. n == 0) c.in-Ok.errors.ok.0) seen c.if-is_empty.true)

pub returns-else-is_empty-clause-said : goal.returns-else-is_empty-clause-said
unfolding rooted_service
returns-else-is_empty-clause-said g c =
    let q = g.Q.GraphQLValue in
    let m = g.M.GraphQLMutationValue in
    let self = c.args.self.now in
    let root = self.root.now in
    let s = view_schema default_shown (schema_of root) in
    let a = view_request c.args.request.now in
    let d = view_document default_shown c.args.document.now in
    let es = c.in-Ok.errors.items in
    let seen : map view_rule_error es ≡ rule_errors s (is_disabled root) d =
    subst (λ b. map view_rule_error es ≡ rule_errors s b d) c.is_introspection_disabled.ensures
    (subst (λ x. map view_rule_error es ≡ rule_errors x c.is_introspection_disabled.result d) (ap (view_schema default_shown) c.schema.ensures)
    c.in-Ok.ensures) in
    let some = some_found view_rule_error es c.is_empty.result _ (c.is_empty.ensures ∙ ap (λ n. n == 0) c.in-Ok.errors.ok.0) refl c.if-is_empty.false in
    let told = subst (λ b. IsInvalidTold s b self.explained_bytes a.query (map view_rule_error es) d c.invalid_reply.result) c.is_introspection_disabled.ensures
    (subst (λ x. IsInvalidTold x c.is_introspection_disabled.result self.explained_bytes a.query (map view_rule_error es) d c.invalid_reply.result)
    (ap (view_schema default_shown) c.schema.ensures) c.invalid_reply.ensures) in
    invalid-told (service_of q.concrete q.answer q.root m.step m.torn default_shown root) self.bounds a self.explained_bytes c.args.may_write self.context
    self.entered_fields d c.requires.within (map view_rule_error es) seen some c.invalid_reply.result told
