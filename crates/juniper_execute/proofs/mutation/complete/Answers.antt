use Rattle.std.proofs.Common.{Ok, string_bytes, refl, subst}
use Rattle.graphql_spec.specs.Fields.{is_possible}
use Rattle.graphql_spec.specs.Types.{innermost}
use Rattle.juniper_schema.specs.SchemaView.{view_schema}
use Rattle.juniper_syntax.specs.TypeView.{view_type}
use Rattle.juniper_walk.proofs.Entering.{through-spends}
use Rattle.juniper_walk.proofs.Elsewhere.{standing-elsewhere}
use Rattle.juniper_walk.specs.PlanWalks.{HasFirst}
use Rattle.juniper_walk.specs.Plans.{fields_at}
use Rattle.juniper_execute.specs.RootFields.{asks_in, collector_in, values_in}
use Rattle.juniper_execute.specs.Meanings.{world_at}
use Rattle.juniper_execute.proofs.Entering.{through-unless, within-elsewhere}
use Rattle.juniper_execute.proofs.RootGroups.{completed-elsewhere, merges-elsewhere, root-ready, same-fields-elsewhere, step-elsewhere}
use Rattle.juniper_execute.proofs.mutation.complete.Goals as goal

pub invariant_of-service : goal.invariant_of-service
invariant_of-service g c = record { executable = c.args.served.now.executable; unnamed = c.args.served.now.unnamed }

pub complete_value-requires-clause-ready : goal.complete_value-requires-clause-ready
complete_value-requires-clause-ready g c = root-ready g.S.ScalarValue.shown c.args.walk.now _ refl refl c.requires.ready

pub complete_value-requires-clause-standing : goal.complete_value-requires-clause-standing
complete_value-requires-clause-standing g c =
    standing-elsewhere g.S.ScalarValue.shown (collector_in g.S.ScalarValue.shown c.args.walk.now) _ refl refl
    (asks_in g.S.ScalarValue.shown c.args.walk.now (view_schema g.S.ScalarValue.shown c.args.served.now.schema.now))
    (is_possible (view_schema g.S.ScalarValue.shown c.args.served.now.schema.now)) c.args.plan.now c.requires.standing

pub complete_value-requires-clause-some : goal.complete_value-requires-clause-some
complete_value-requires-clause-some g c =
    subst HasFirst (same-fields-elsewhere g.S.ScalarValue.shown (collector_in g.S.ScalarValue.shown c.args.walk.now) _ refl refl
    (fields_at c.args.plan.now c.args.group.0)) c.requires.some

pub complete_value-requires-clause-merge : goal.complete_value-requires-clause-merge
complete_value-requires-clause-merge g c =
    let shown = g.S.ScalarValue.shown in
    let root = c.args.served.now in
    let W = world_at (g.R.NodeTypes.meaning root.resolver.now) (view_schema shown root.schema.now) (values_in shown c.args.walk.now) c.args.context.now in
    merges-elsewhere shown _ (collector_in shown c.args.walk.now) refl refl W
    (innermost (view_type (λ n. string_bytes n) c.args.asked.declared.now)) (fields_at c.args.plan.now c.args.group.0) c.requires.merge

pub returns-clause-plan : goal.returns-clause-plan
returns-clause-plan g c =
    step-elsewhere g.S.ScalarValue.shown _ (collector_in g.S.ScalarValue.shown c.args.walk.now) refl refl _ _ _ _ c.in_ok-walked.ensures.plan

pub returns-clause-completed : goal.returns-clause-completed
returns-clause-completed g c = λ reply given.
    completed-elsewhere g.S.ScalarValue.shown _ (collector_in g.S.ScalarValue.shown c.args.walk.now) refl refl _ _ _ _ reply
    (fields_at c.args.plan.now c.args.group.0) _ _ (c.in_ok-walked.ensures.completed reply given)

pub returns-in_err-walked-clause-told : goal.returns-in_err-walked-clause-told
returns-in_err-walked-clause-told g c =
    through-unless (Unit {0}) _ _ _ c.from_residual.result c.from_residual.ensures.1 c.in_err-walked.ensures.told

pub returns-clause-entered : goal.returns-clause-entered
returns-clause-entered g c =
    let shown = g.S.ScalarValue.shown in
    let root = c.args.served.now in
    let W = world_at (g.R.NodeTypes.meaning root.resolver.now) (view_schema shown root.schema.now) (values_in shown c.args.walk.now) c.args.context.now in
    within-elsewhere shown _ (collector_in shown c.args.walk.now) refl refl W c.args.asked (fields_at c.args.plan.now c.args.group.0) c.args.plan.now.left
    c.complete_value.new.plan.left (Ok c.in_ok-walked.walked) c.in_ok-walked.ensures.entered

pub returns-in_err-walked-clause-entered : goal.returns-in_err-walked-clause-entered
returns-in_err-walked-clause-entered g c =
    within-elsewhere g.S.ScalarValue.shown _ (collector_in g.S.ScalarValue.shown c.args.walk.now) refl refl _ c.args.asked
    (fields_at c.args.plan.now c.args.group.0) _ _ _
    (λ reply given. through-spends (Unit {0}) _ _ 0 _ _ _ _ _ c.from_residual.result c.from_residual.ensures.1 (c.in_err-walked.ensures.entered reply given)
    (λ less. less))
