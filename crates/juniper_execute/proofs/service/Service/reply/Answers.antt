use Rattle.std.proofs.Common.{◌∙◌, sym}
use Rattle.graphql_spec.specs.Execution.{reply_to}
use Rattle.graphql_spec.specs.Resolvers.{answered, leaf, world_of}
use Rattle.graphql_spec.specs.Shown.{text}
use Rattle.juniper_schema.specs.SchemaView.{view_schema}
use Rattle.juniper_syntax.specs.InputView.{view_variables}
use Rattle.juniper_walk.specs.FieldWords.{head_of}
use Rattle.juniper_execute.specs.Questions.{meant_arguments}
use Rattle.juniper_execute.specs.Meanings.{world_at}
use Rattle.juniper_execute.proofs.AllReplies.{named-reply, replied-alike, resolved-reply}
use Rattle.juniper_execute.proofs.service.Service.reply.Goals as goal

pub returns-then-eq : goal.returns-then-eq
returns-then-eq g c =
    let shown = g.S.ScalarValue.shown in
    let d = c.args.self.now in
    let h = head_of shown c.args.first.now in
    let W = world_at (g.R.NodeTypes.meaning d.resolver.now) (view_schema shown d.schema.now) (view_variables shown d.variables.now) d.context.now in
    replied-alike shown (λ m. answered (leaf (text c.args.concrete.now))) (λ m. reply_to W c.args.concrete.now m h)
    (named-reply W c.args.concrete.now h (sym c.eq.ensures ∙ c.if-eq.true)) c.args.nodes.now c.type_names.result c.type_names.ensures

pub returns-else-eq : goal.returns-else-eq
unfolding world_of
returns-else-eq g c =
    let shown = g.S.ScalarValue.shown in
    let d = c.args.self.now in
    let h = head_of shown c.args.first.now in
    let s = view_schema shown d.schema.now in
    let vars = view_variables shown d.variables.now in
    let W = world_at (g.R.NodeTypes.meaning d.resolver.now) s vars d.context.now in
    replied-alike shown (λ m. (g.R.NodeTypes.meaning d.resolver.now).answer d.context.now m h.name.item (meant_arguments s vars c.args.concrete.now h))
    (λ m. reply_to W c.args.concrete.now m h) (resolved-reply W c.args.concrete.now h (sym c.eq.ensures ∙ c.if-eq.false))
    c.args.nodes.now c.resolve.result c.resolve.ensures
