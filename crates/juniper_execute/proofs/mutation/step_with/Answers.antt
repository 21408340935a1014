use Rattle.std.proofs.Common.{refl}
use Rattle.juniper_lookahead.specs.Expansion.{occurrence_at}
use Rattle.juniper_execute.proofs.Asked.{asked-at, first-bound, first-same}
use Rattle.juniper_execute.proofs.mutation.step_with.Goals as goal

pub at_field-executor-requires-clause-acyclic : goal.at_field-executor-requires-clause-acyclic
at_field-executor-requires-clause-acyclic g c = c.requires.asked.acyclic

pub at_field-executor-requires-clause-some : goal.at_field-executor-requires-clause-some
at_field-executor-requires-clause-some g c = first-bound c.args.site.now.occurrences.now c.args.written.now c.requires.asked.first

pub resolve_root-requires : goal.resolve_root-requires
unfolding occurrence_at
resolve_root-requires g c =
    let shown = g.S.ScalarValue.shown in
    let made = c.at_field-executor.ensures in
    asked-at shown c.at_field-executor.result _ _ _ _ _ c.args.site.now.occurrences.now c.args.written.now c.args.question.now.shown c.args.site.now.path.now
    _ _ made.schema made.variables made.fragments made.concrete_type made.enclosing made.occurrences
    (first-same c.args.site.now.occurrences.now _ c.args.written.now made.first c.requires.asked.first) made.declared_type made.path c.requires.asked.first
    refl c.requires.arguments c.requires.asked.whole c.requires.asked.question.shows c.requires.asked.path c.args.served.now.executable
