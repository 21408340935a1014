use Rattle.std.proofs.Common.{map, refl, ap, subst, ◌∙◌}
use Rattle.juniper.specs.Answering.{request_of}
use Rattle.juniper.specs.Budgets.{AnswersWithin, RunsOver, SpendsOnly}
use Rattle.juniper.specs.Promised.{IsFullOutcome}
use Rattle.juniper.specs.RootView.{service_of}
use Rattle.juniper_json.specs.Each.{view_refused}
use Rattle.juniper_request.specs.Requests.{view_request}
use Rattle.juniper_syntax.specs.DocumentView.{view_document}
use Rattle.juniper_syntax.specs.InputView.{view_variables}
use Rattle.juniper_syntax.specs.Scalars.{default_shown}
use Rattle.juniper_endpoint.proofs.Telling.{answered-told, request-same, told-of, seen-so, seen-unfitting, seen-writes}
use Rattle.juniper_endpoint.specs.Replied.{refused_among, request_asked}
use Rattle.juniper_endpoint.specs.declared.look.Finding.TheVariants as look
use Rattle.juniper_endpoint.proofs.replied.reply_valid.Goals as goal

pub returns-in-Ok-Writes : goal.returns-in-Ok-Writes
returns-in-Ok-Writes g c = λ b explains taken.
    let q = g.Q.GraphQLValue in
    let m = g.M.GraphQLMutationValue in
    let S = service_of q.concrete q.answer q.root m.step m.torn default_shown c.args.root.now in
    let a = view_request c.args.request.now in
    let d = view_document default_shown c.args.document.now in
    let seen = seen-so (refused_among a.variables) _ c.args.may_write a.operation_name d _ look.Writes
    (ap (map view_refused) c.deref.ensures.value ∙ c.requires.given.1) c.in-Ok-Writes.field-0-is c.in-Ok-Writes.ensures in
    seen-writes S b a c.args.explainer.now.most_bytes c.args.may_write c.args.context.now c.args.entered_fields d taken seen
    c.bare_reply.result c.bare_reply.ensures

pub returns-in-Ok-Unfitting : goal.returns-in-Ok-Unfitting
returns-in-Ok-Unfitting g c = λ b explains taken.
    let q = g.Q.GraphQLValue in
    let m = g.M.GraphQLMutationValue in
    let S = service_of q.concrete q.answer q.root m.step m.torn default_shown c.args.root.now in
    let a = view_request c.args.request.now in
    let d = view_document default_shown c.args.document.now in
    let errors = c.in-Ok-Unfitting.errors in
    let seen = seen-so (refused_among a.variables) _ c.args.may_write a.operation_name d _ (look.Unfitting errors)
    (ap (map view_refused) c.deref.ensures.value ∙ c.requires.given.1) c.in-Ok-Unfitting.field-0-is c.in-Ok-Unfitting.ensures in
    seen-unfitting S b a c.args.explainer.now.most_bytes c.args.may_write c.args.context.now c.args.entered_fields d taken errors seen c.answered_reply.result
    c.answered_reply.ensures

pub returns-in-Ok-Passes : goal.returns-in-Ok-Passes
returns-in-Ok-Passes g c = λ b explains taken.
    let q = g.Q.GraphQLValue in
    let m = g.M.GraphQLMutationValue in
    let S = service_of q.concrete q.answer q.root m.step m.torn default_shown c.args.root.now in
    let a = view_request c.args.request.now in
    let d = view_document default_shown c.args.document.now in
    let text = c.args.request.now.query.now in
    let before = c.args.context.now in
    let after = c.execute_document-answered.new.context in
    let answered = c.execute_document-answered.result in
    let same = request-same a text (view_variables default_shown c.args.given.now.values) refl c.requires.given.0 in
    let seen = seen-so (refused_among a.variables) _ c.args.may_write a.operation_name d _ look.Passes
    (ap (map view_refused) c.deref.ensures.value ∙ c.requires.given.1) c.in-Ok-Passes.field-0-is c.in-Ok-Passes.ensures in
    let full = subst (λ q. AnswersWithin default_shown (λ x. IsFullOutcome S q before x after) answered) same
    (c.execute_document-answered.ensures.answers text taken.0.0.1) in
    let spent = subst (λ q. SpendsOnly c.args.entered_fields (RunsOver S q before) answered) same
    (c.execute_document-answered.ensures.spent text taken.0.0.1) in
    let told = told-of S (request_of default_shown text c.args.request.now.operation_name c.args.given.now.values) (request_asked a) d
    c.args.explainer.now answered c.executed_reply.result explains same c.executed_reply.ensures in
    answered-told S b a c.args.explainer.now.most_bytes c.args.may_write before c.args.entered_fields d taken seen
    after answered full c.execute_document-answered.ensures.counted spent c.executed_reply.result told
