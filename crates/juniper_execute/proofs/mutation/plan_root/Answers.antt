use Rattle.std.proofs.Common.{◌+◌, ◌<◌, ◌≤◌, ℕ, refl, subst}
use Rattle.graphql_spec.specs.Fields.{is_possible}
use Rattle.juniper_schema.specs.SchemaView.{view_schema}
use Rattle.juniper_walk.proofs.Entering.{through-spends}
use Rattle.juniper_walk.proofs.Elsewhere.{standing-elsewhere}
use Rattle.juniper_execute.specs.RootFields.{asks_in, collector_in}
use Rattle.juniper_execute.proofs.Entering.{own-elsewhere}
use Rattle.juniper_execute.proofs.RootGroups.{made-elsewhere, root-ready}
use Rattle.juniper_execute.proofs.mutation.plan_root.Goals as goal

pub invariant_of-service : goal.invariant_of-service
invariant_of-service g c = record { executable = c.args.served.now.executable; unnamed = c.args.served.now.unnamed }

pub enter_root-requires-clause-ready : goal.enter_root-requires-clause-ready
enter_root-requires-clause-ready g c = root-ready g.S.ScalarValue.shown c.args.walk.now _ refl refl c.requires.ready

pub enter_root-requires-clause-standing : goal.enter_root-requires-clause-standing
enter_root-requires-clause-standing g c =
    standing-elsewhere g.S.ScalarValue.shown (collector_in g.S.ScalarValue.shown c.args.walk.now) _ refl refl
    (asks_in g.S.ScalarValue.shown c.args.walk.now (view_schema g.S.ScalarValue.shown c.args.served.now.schema.now))
    (is_possible (view_schema g.S.ScalarValue.shown c.args.served.now.schema.now)) c.args.plan.now c.requires.standing

pub returns-clause-made : goal.returns-clause-made
returns-clause-made g c =
    made-elsewhere g.S.ScalarValue.shown _ (collector_in g.S.ScalarValue.shown c.args.walk.now) refl refl _ _ _ c.args.enclosing.now _ _ _
    c.in_ok-groups.ensures.made

pub returns-clause-entered : goal.returns-clause-entered
returns-clause-entered g c =
    subst (λ (n : ℕ). c.args.plan.now.left ≤ c.enter_root.new.plan.left + n)
    (own-elsewhere g.S.ScalarValue.shown _ (collector_in g.S.ScalarValue.shown c.args.walk.now) refl refl _ c.args.walk.now.concrete.now
    c.args.enclosing.now) c.in_ok-groups.ensures.entered

pub returns-in_err-groups-clause-entered : goal.returns-in_err-groups-clause-entered
returns-in_err-groups-clause-entered g c =
    through-spends (Unit {0}) _ _ 0 _ _ _ _ _ c.from_residual.result c.from_residual.ensures.1 c.in_err-groups.ensures.entered
    (subst (λ (n : ℕ). c.args.plan.now.left < n) (own-elsewhere g.S.ScalarValue.shown _ (collector_in g.S.ScalarValue.shown c.args.walk.now) refl refl _
    c.args.walk.now.concrete.now c.args.enclosing.now))
