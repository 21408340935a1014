use Rattle.std.proofs.Common.{◌∙◌, subst}
use Rattle.graphql_spec.specs.Execution.{reply_to}
use Rattle.graphql_spec.specs.Resolvers.{world_of}
use Rattle.juniper_values.specs.ResolvedView.{Answers}
use Rattle.juniper_schema.specs.SchemaView.{view_schema}
use Rattle.juniper_syntax.specs.InputView.{view_variables}
use Rattle.juniper_walk.specs.FieldWords.{head_of}
use Rattle.juniper_execute.specs.Questions.{IsQuestion}
use Rattle.juniper_execute.specs.Meanings.{world_at}
use Rattle.juniper_execute.proofs.Asked.{first-asked, first-placed, first-reply, first-type, whole-bound}
use Rattle.juniper_execute.proofs.AllReplies.{only-answers}
use Rattle.juniper_execute.proofs.service.ServiceResolver.resolve_field_value.Goals as goal

pub first_of-written-requires : goal.first_of-written-requires
first_of-written-requires g c = whole-bound g.S.ScalarValue.shown _ _ _ _ _ c.args.site.now.occurrences.now c.requires.whole

pub reply-replied-requires-clause-asked : goal.reply-replied-requires-clause-asked
reply-replied-requires-clause-asked g c =
    let shown = g.S.ScalarValue.shown in
    let d = c.args.self.now in
    let site = c.args.site.now in
    let first = c.first_of-written.ensures in
    record {
      question = first-asked shown d.variables.now site.fragments.now
          (IsQuestion shown (view_schema shown d.schema.now) (view_variables shown d.variables.now) c.args.concrete.now) site.occurrences.now
          c.first_of-written.result.now c.args.question.now first c.requires.question;
      acyclic = c.requires.acyclic;
      first = first;
      path = first-placed shown d.variables.now site.fragments.now site.occurrences.now c.first_of-written.result.now _ first c.requires.path;
      whole = c.requires.whole;
    }

pub returns-clause-declared : goal.returns-clause-declared
unfolding world_of
returns-clause-declared g c =
    let shown = g.S.ScalarValue.shown in
    let s = c.args.self.now in
    let d = s in
    let W = world_at (g.R.NodeTypes.meaning s.resolver.now) (view_schema shown d.schema.now) (view_variables shown d.variables.now) s.context.now in
    let asked = first-asked shown d.variables.now c.args.site.now.fragments.now
    (IsQuestion shown (view_schema shown d.schema.now) (view_variables shown d.variables.now) c.args.concrete.now) c.args.site.now.occurrences.now
    c.first_of-written.result.now c.args.question.now c.first_of-written.ensures c.requires.question in
    asked.declared
    ∙ first-type shown d.variables.now c.args.site.now.fragments.now W c.args.concrete.now c.args.site.now.occurrences.now
    c.first_of-written.result.now c.first_of-written.ensures

pub returns-clause-answer : goal.returns-clause-answer
unfolding world_of
returns-clause-answer g c =
    let shown = g.S.ScalarValue.shown in
    let d = c.args.self.now in
    let W = world_at (g.R.NodeTypes.meaning d.resolver.now) (view_schema shown d.schema.now) (view_variables shown d.variables.now) d.context.now in
    let first = c.first_of-written.result.now in
    subst (Answers shown c.only_reply-answer.result)
    (first-reply shown d.variables.now c.args.site.now.fragments.now W c.args.concrete.now c.args.node.now c.args.site.now.occurrences.now first
    c.first_of-written.ensures)
    (only-answers shown (λ m. reply_to W c.args.concrete.now m (head_of shown first)) c.args.node c.reply-replied.result c.only_reply-answer.result
    c.reply-replied.ensures c.only_reply-answer.ensures)
