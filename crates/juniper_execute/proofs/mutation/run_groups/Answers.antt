use Rattle.std.proofs.Common.{Err, map, refl, ap, arith}
use Rattle.graphql_spec.specs.Fields.{is_possible}
use Rattle.graphql_spec.specs.Resolvers.{world_of}
use Rattle.graphql_spec.specs.Selections.{keys}
use Rattle.juniper_conversions.specs.ErrorView.{view_listed}
use Rattle.juniper_walk.proofs.Entering.{through-spends}
use Rattle.juniper_walk.proofs.Sorted.{bare-stands}
use Rattle.juniper_schema.specs.SchemaView.{view_schema}
use Rattle.juniper_syntax.specs.ValueView.{view_object}
use Rattle.juniper_syntax.proofs.Values.{view-Null, view-Object}
use Rattle.juniper_execute.specs.RootFields.{all_fields, asks_in, collector_in, selected_in, values_in}
use Rattle.juniper_execute.specs.Meanings.{mutation_at}
use Rattle.juniper_execute.specs.Walkings.{starts_by}
use Rattle.juniper_execute.proofs.Bounds.{bounded-begins, bounded-ends, bounded-next, bounded-null}
use Rattle.juniper_execute.proofs.RootPlans.{before-end, entering-begins, left-same, on-err, past-end, plan-asked, plan-begins, plan-bound, plan-ends, plan-group, plan-kept, plan-lost}
use Rattle.juniper_execute.proofs.RootPlans.{own-spends, plan-moves, plan-stopped, rest-enters, root-expanded}
use Rattle.juniper_execute.proofs.mutation.run_groups.Goals as goal

pub plan_root-requires-clause-standing : goal.plan_root-requires-clause-standing
plan_root-requires-clause-standing g c =
    bare-stands g.S.ScalarValue.shown (collector_in g.S.ScalarValue.shown c.args.walk.now)
    (asks_in g.S.ScalarValue.shown c.args.walk.now (view_schema g.S.ScalarValue.shown c.args.served.now.schema.now))
    (is_possible (view_schema g.S.ScalarValue.shown c.args.served.now.schema.now)) c.args.plan.now.left c.args.plan.now c.requires.bare

pub returns-in_err-groups-clause-ran : goal.returns-in_err-groups-clause-ran
returns-in_err-groups-clause-ran g c =
    let shown = g.S.ScalarValue.shown in
    let root = c.args.served.now in
    let walk = c.args.walk.now in
    let s = view_schema shown root.schema.now in
    let M = mutation_at (g.R.NodeTypes.meaning root.resolver.now) s (values_in shown walk) (g.M.MutationSteps.steps walk.steps.now) in
    let T = walk.concrete.now in
    let os = all_fields shown walk s in
    let before = c.args.context.now in
    on-err _ _ _ c.from_residual.ensures.0 (left-same M T (keys os) os before)

pub returns-in_err-entries-clause-ran : goal.returns-in_err-entries-clause-ran
returns-in_err-entries-clause-ran g c =
    let shown = g.S.ScalarValue.shown in
    let root = c.args.served.now in
    let walk = c.args.walk.now in
    let s = view_schema shown root.schema.now in
    let M = mutation_at (g.R.NodeTypes.meaning root.resolver.now) s (values_in shown walk) (g.M.MutationSteps.steps walk.steps.now) in
    let T = walk.concrete.now in
    let os = all_fields shown walk s in
    let before = c.args.context.now in
    on-err _ _ _ c.from_residual-in_err-entries.ensures.0 (left-same M T (keys os) os before)

pub loop-number-init : goal.loop-number-init
unfolding world_of
loop-number-init g c =
    let shown = g.S.ScalarValue.shown in
    let root = c.args.served.now in
    let walk = c.args.walk.now in
    let s = view_schema shown root.schema.now in
    let M = mutation_at (g.R.NodeTypes.meaning root.resolver.now) s (values_in shown walk) (g.M.MutationSteps.steps walk.steps.now) in
    let T = walk.concrete.now in
    let os = all_fields shown walk s in
    let before = c.args.context.now in (
      c.in_ok-groups.groups,
      refl,
      plan-begins M (starts_by root.walking) shown walk s c.in_ok-groups.groups before _ refl refl _ _ _ _ _ refl c.in_ok-groups.ensures.made
          c.in_ok-entries.ensures (ap (map (view_listed shown)) c.new-errors.ensures.items),
      bounded-begins root.walking _ _ _ _ c.in_ok-entries.ensures c.in_ok-groups.ensures.counted,
      entering-begins M T (selected_in shown walk) before os refl c.in_ok-groups.groups.first.0 (is_possible s) refl _ (root-expanded shown walk _ refl) _ _
          c.in_ok-groups.ensures.entered,
    )

pub run_group-requires-clause-standing : goal.run_group-requires-clause-standing
run_group-requires-clause-standing g c = c.loop-number.invariant.2.standing

pub run_group-requires-clause-bound : goal.run_group-requires-clause-bound
run_group-requires-clause-bound g c =
    let shown = g.S.ScalarValue.shown in
    let root = c.args.served.now in
    let walk = c.args.walk.now in
    let s = view_schema shown root.schema.now in
    let M = mutation_at (g.R.NodeTypes.meaning root.resolver.now) s (values_in shown walk) (g.M.MutationSteps.steps walk.steps.now) in
    let T = walk.concrete.now in
    let os = all_fields shown walk s in
    let before = c.args.context.now in
    let r = c.loop-number.invariant.0 in
    let i = c.loop-number.number in
    let p = c.loop-number.plan in
    let es = view_object shown c.loop-number.entries in
    let errors = map (view_listed shown) c.loop-number.errors.items in
    let now = c.loop-number.context in
    let ran = c.loop-number.invariant.2 in
    let high = before-end r i _ c.loop-number.invariant.1 c.loop-number-test.true in
    plan-bound M (starts_by root.walking) shown walk s r before i p es errors now ran high

pub run_group-requires-clause-enclosing : goal.run_group-requires-clause-enclosing
run_group-requires-clause-enclosing g c = root-expanded g.S.ScalarValue.shown c.args.walk.now _ refl

pub run_group-requires-clause-group : goal.run_group-requires-clause-group
run_group-requires-clause-group g c =
    let shown = g.S.ScalarValue.shown in
    let root = c.args.served.now in
    let walk = c.args.walk.now in
    let s = view_schema shown root.schema.now in
    let M = mutation_at (g.R.NodeTypes.meaning root.resolver.now) s (values_in shown walk) (g.M.MutationSteps.steps walk.steps.now) in
    let T = walk.concrete.now in
    let os = all_fields shown walk s in
    let before = c.args.context.now in
    let r = c.loop-number.invariant.0 in
    let i = c.loop-number.number in
    let p = c.loop-number.plan in
    let es = view_object shown c.loop-number.entries in
    let errors = map (view_listed shown) c.loop-number.errors.items in
    let now = c.loop-number.context in
    let ran = c.loop-number.invariant.2 in
    let high = before-end r i _ c.loop-number.invariant.1 c.loop-number-test.true in
    plan-group M (starts_by root.walking) shown walk s r before i p es errors now ran high

pub run_group-requires-clause-asked : goal.run_group-requires-clause-asked
run_group-requires-clause-asked g c =
    let shown = g.S.ScalarValue.shown in
    let root = c.args.served.now in
    let walk = c.args.walk.now in
    let s = view_schema shown root.schema.now in
    let M = mutation_at (g.R.NodeTypes.meaning root.resolver.now) s (values_in shown walk) (g.M.MutationSteps.steps walk.steps.now) in
    let T = walk.concrete.now in
    let os = all_fields shown walk s in
    let before = c.args.context.now in
    let r = c.loop-number.invariant.0 in
    let i = c.loop-number.number in
    let p = c.loop-number.plan in
    let es = view_object shown c.loop-number.entries in
    let errors = map (view_listed shown) c.loop-number.errors.items in
    let now = c.loop-number.context in
    let ran = c.loop-number.invariant.2 in
    let high = before-end r i _ c.loop-number.invariant.1 c.loop-number-test.true in
    plan-asked M (starts_by root.walking) shown walk s r before i p es errors now ran high

pub returns-in-Err-clause-ran : goal.returns-in-Err-clause-ran
returns-in-Err-clause-ran g c =
    let shown = g.S.ScalarValue.shown in
    let root = c.args.served.now in
    let walk = c.args.walk.now in
    let s = view_schema shown root.schema.now in
    let M = mutation_at (g.R.NodeTypes.meaning root.resolver.now) s (values_in shown walk) (g.M.MutationSteps.steps walk.steps.now) in
    let T = walk.concrete.now in
    let os = all_fields shown walk s in
    let before = c.args.context.now in
    let r = c.loop-number.invariant.0 in
    let i = c.loop-number.number in
    let p = c.loop-number.plan in
    let es = view_object shown c.loop-number.entries in
    let errors = map (view_listed shown) c.loop-number.errors.items in
    let now = c.loop-number.context in
    let ran = c.loop-number.invariant.2 in
    let high = before-end r i _ c.loop-number.invariant.1 c.loop-number-test.true in
    plan-stopped M (starts_by root.walking) shown walk s r before i p es errors now ran high _ c.in-Err.ensures.ran

pub returns-then-rises-clause-ran : goal.returns-then-rises-clause-ran
returns-then-rises-clause-ran g c =
    let shown = g.S.ScalarValue.shown in
    let root = c.args.served.now in
    let walk = c.args.walk.now in
    let s = view_schema shown root.schema.now in
    let M = mutation_at (g.R.NodeTypes.meaning root.resolver.now) s (values_in shown walk) (g.M.MutationSteps.steps walk.steps.now) in
    let T = walk.concrete.now in
    let os = all_fields shown walk s in
    let before = c.args.context.now in
    let r = c.loop-number.invariant.0 in
    let i = c.loop-number.number in
    let p = c.loop-number.plan in
    let es = view_object shown c.loop-number.entries in
    let errors = map (view_listed shown) c.loop-number.errors.items in
    let now = c.loop-number.context in
    let ran = c.loop-number.invariant.2 in
    let high = before-end r i _ c.loop-number.invariant.1 c.loop-number-test.true in
    plan-moves M (starts_by root.walking) T (keys os) os before _ _ _ _ (view-Null shown)
    (plan-lost M (starts_by root.walking) shown walk s r before i p es errors now ran high _ _ _ (rw c.if-rises.true at c.in-Ok.ensures.ran))

pub loop-number-preserved : goal.loop-number-preserved
loop-number-preserved g c =
    let shown = g.S.ScalarValue.shown in
    let root = c.args.served.now in
    let walk = c.args.walk.now in
    let s = view_schema shown root.schema.now in
    let M = mutation_at (g.R.NodeTypes.meaning root.resolver.now) s (values_in shown walk) (g.M.MutationSteps.steps walk.steps.now) in
    let T = walk.concrete.now in
    let os = all_fields shown walk s in
    let before = c.args.context.now in
    let r = c.loop-number.invariant.0 in
    let i = c.loop-number.number in
    let p = c.loop-number.plan in
    let es = view_object shown c.loop-number.entries in
    let errors = map (view_listed shown) c.loop-number.errors.items in
    let now = c.loop-number.context in
    let ran = c.loop-number.invariant.2 in
    let high = before-end r i _ c.loop-number.invariant.1 c.loop-number-test.true in (
      r,
      c.loop-number.invariant.1,
      plan-kept M (starts_by root.walking) shown walk s r before i p es errors now ran high _ c.in-Ok.ensures.plan _ _ _
          (rw c.if-rises.false at c.in-Ok.ensures.ran),
      bounded-next root.walking _ _ _ _ _ _ _ high c.loop-number.invariant.3 c.in-Ok.ensures.counted,
      omega (
        arith,
        c.loop-number.invariant.4,
        c.in-Ok.ensures.entered,
        rest-enters M (starts_by root.walking) shown walk s r before i p es errors now ran high _ (rw c.if-rises.false at c.in-Ok.ensures.ran).context,
      ),
    )

pub returns-clause-ran : goal.returns-clause-ran
returns-clause-ran g c =
    let shown = g.S.ScalarValue.shown in
    let root = c.args.served.now in
    let walk = c.args.walk.now in
    let s = view_schema shown root.schema.now in
    let M = mutation_at (g.R.NodeTypes.meaning root.resolver.now) s (values_in shown walk) (g.M.MutationSteps.steps walk.steps.now) in
    let T = walk.concrete.now in
    let os = all_fields shown walk s in
    let before = c.args.context.now in
    plan-moves M (starts_by root.walking) T (keys os) os before _ _ _ _ (view-Object shown c.loop-number.entries)
    (plan-ends M (starts_by root.walking) shown walk s c.loop-number.invariant.0 before _ _ _ _ _ c.loop-number.invariant.2
    (past-end c.loop-number.invariant.0 _ _ c.loop-number.invariant.1 c.loop-number-test.false))

pub returns-then-rises-clause-counted : goal.returns-then-rises-clause-counted
returns-then-rises-clause-counted g c = bounded-null c.args.served.now.walking _ _ (view-Null g.S.ScalarValue.shown)

pub returns-clause-counted : goal.returns-clause-counted
returns-clause-counted g c =
    bounded-ends c.args.served.now.walking _ _ _ _ _ (view-Object g.S.ScalarValue.shown c.loop-number.entries) c.loop-number.invariant.3

pub returns-in_err-groups-clause-entered : goal.returns-in_err-groups-clause-entered
unfolding world_of
returns-in_err-groups-clause-entered g c =
    let shown = g.S.ScalarValue.shown in
    let root = c.args.served.now in
    let walk = c.args.walk.now in
    let s = view_schema shown root.schema.now in
    let M = mutation_at (g.R.NodeTypes.meaning root.resolver.now) s (values_in shown walk) (g.M.MutationSteps.steps walk.steps.now) in
    through-spends (Unit {0}) _ _ 0 _ _ _ _ _ c.from_residual.result c.from_residual.ensures.1 c.in_err-groups.ensures.entered
    (own-spends M walk.concrete.now (selected_in shown walk) c.args.context.now (is_possible s) refl _ (root-expanded shown walk _ refl) _)

pub returns-in-Err-clause-entered : goal.returns-in-Err-clause-entered
returns-in-Err-clause-entered g c =
    let shown = g.S.ScalarValue.shown in
    let root = c.args.served.now in
    let walk = c.args.walk.now in
    let s = view_schema shown root.schema.now in
    let M = mutation_at (g.R.NodeTypes.meaning root.resolver.now) s (values_in shown walk) (g.M.MutationSteps.steps walk.steps.now) in
    let T = walk.concrete.now in
    let os = all_fields shown walk s in
    let before = c.args.context.now in
    let r = c.loop-number.invariant.0 in
    let i = c.loop-number.number in
    let p = c.loop-number.plan in
    let es = view_object shown c.loop-number.entries in
    let errors = map (view_listed shown) c.loop-number.errors.items in
    let now = c.loop-number.context in
    let ran = c.loop-number.invariant.2 in
    let high = before-end r i _ c.loop-number.invariant.1 c.loop-number-test.true in
    let whole = rest-enters M (starts_by root.walking) shown walk s r before i p es errors now ran high _ refl in
    through-spends (Unit {0}) (Unit {0}) _ 0 _ _ 0 _ c.in-Err.error (Err c.in-Err.error) refl c.in-Err.ensures.entered
    (λ less. omega (arith, c.loop-number.invariant.4, whole, less))

pub returns-then-rises-clause-entered : goal.returns-then-rises-clause-entered
returns-then-rises-clause-entered g c =
    let shown = g.S.ScalarValue.shown in
    let root = c.args.served.now in
    let walk = c.args.walk.now in
    let s = view_schema shown root.schema.now in
    let M = mutation_at (g.R.NodeTypes.meaning root.resolver.now) s (values_in shown walk) (g.M.MutationSteps.steps walk.steps.now) in
    let T = walk.concrete.now in
    let os = all_fields shown walk s in
    let before = c.args.context.now in
    let r = c.loop-number.invariant.0 in
    let i = c.loop-number.number in
    let p = c.loop-number.plan in
    let es = view_object shown c.loop-number.entries in
    let errors = map (view_listed shown) c.loop-number.errors.items in
    let now = c.loop-number.context in
    let ran = c.loop-number.invariant.2 in
    let high = before-end r i _ c.loop-number.invariant.1 c.loop-number-test.true in
    let whole = rest-enters M (starts_by root.walking) shown walk s r before i p es errors now ran high _ refl in
    omega (arith, c.loop-number.invariant.4, whole, c.in-Ok.ensures.entered)

pub returns-clause-entered : goal.returns-clause-entered
returns-clause-entered g c = omega (arith, c.loop-number.invariant.4)
