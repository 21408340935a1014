use Rattle.std.proofs.Common.{subst, refl}
use Rattle.juniper_lookahead.specs.Expansion.{occurrence_at}
use Rattle.juniper_values.specs.ArgumentView.{view_arguments}
use Rattle.juniper_walk.specs.FieldWords.{head_of}
use Rattle.juniper_execute.specs.Replied.{AreReplied}
use Rattle.juniper_execute.proofs.Asked.{asked-at, first-bound, first-same}
use Rattle.juniper_execute.proofs.service.Service.resolve_with.Goals as goal

pub at_field-executor-requires-clause-acyclic : goal.at_field-executor-requires-clause-acyclic
at_field-executor-requires-clause-acyclic g c = c.requires.asked.acyclic

pub at_field-executor-requires-clause-some : goal.at_field-executor-requires-clause-some
at_field-executor-requires-clause-some g c = first-bound c.args.site.now.occurrences.now c.args.first.now c.requires.asked.first

pub resolve-requires-clause-asked : goal.resolve-requires-clause-asked
unfolding occurrence_at
resolve-requires-clause-asked g c =
    let shown = g.S.ScalarValue.shown in
    let made = c.at_field-executor.ensures in
    let asked = c.requires.asked in
    asked-at shown c.at_field-executor.result _ _ _ _ _ c.args.site.now.occurrences.now c.args.first.now c.args.question.now.shown c.args.site.now.path.now _ _
    made.schema made.variables made.fragments made.concrete_type made.enclosing made.occurrences
    (first-same c.args.site.now.occurrences.now _ c.args.first.now made.first asked.first) made.declared_type made.path asked.first
    refl c.requires.arguments asked.whole asked.question.shows asked.path c.args.self.now.executable

pub returns : goal.returns
returns g c =
    let shown = g.S.ScalarValue.shown in
    let service = c.args.self.now in
    let name = (head_of shown c.args.first.now).name.item in
    let answer = (g.R.NodeTypes.meaning service.resolver.now).answer in
    let nodes = c.args.nodes.now in
    subst (λ given. AreReplied shown (λ m. answer service.context.now m name given) nodes c.resolve.result) c.requires.arguments
    (subst (λ context. AreReplied shown (λ m. answer context m name (view_arguments shown c.args.arguments.now)) nodes c.resolve.result)
    c.at_field-executor.ensures.context c.resolve.ensures)
