use Rattle.std.proofs.Common.{◌≡◌, ◌≤◌, ◌+◌, ◌-◌, drop, map}
use Rattle.graphql_spec.specs.Selections.{keys}
use Rattle.juniper_conversions.specs.ErrorView.{view_listed}
use Rattle.juniper_schema.specs.SchemaView.{view_schema}
use Rattle.juniper_syntax.specs.ValueView.{view_object}
use Rattle.juniper_walk.specs.Budget.{fields_in_entries}
use Rattle.juniper_walk.specs.declared.plan.GroupRange.{GroupRange}
use Rattle.juniper_execute.specs.Entered.{entered_groups, entered_run}
use Rattle.juniper_execute.specs.RootFields.{all_fields, selected_in, values_in}
use Rattle.juniper_execute.specs.Meanings.{mutation_at}
use Rattle.juniper_execute.specs.Walkings.{IsBounded, starts_by}
use Rattle.juniper_execute.proofs.RootPlans.{RanPlan}
use Rattle.juniper_execute.proofs.mutation.run_groups.Given as goal

-- the groups so far ran, and those to come can be counted; what was taken off the budget, with what is left to enter, is no more than all
abbrev pub invariant-loop-number : goal.invariant-loop-number
invariant-loop-number g l =
    let shown = g.S.ScalarValue.shown in
    let root = l.served in
    let s = view_schema shown root.schema.now in
    let M = mutation_at (g.R.NodeTypes.meaning root.resolver.now) s (values_in shown l.walk) (g.M.MutationSteps.steps l.walk.steps.now) in
    (r : GroupRange) × (r.end.0 ≡ l.number-end) × RanPlan M (starts_by root.walking) shown l.walk s r l.initial.context l.number l.plan
    (view_object shown l.entries) (map (view_listed shown) l.errors.items) l.context ×
    IsBounded root.walking (fields_in_entries (view_object shown l.entries) + l.plan.left + (r.end.0 - l.number)) l.fn.plan.left ×
    (l.fn.plan.left + entered_groups M l.walk.concrete.now (drop (l.number - r.first.0) (keys (all_fields shown l.walk s))) (all_fields shown l.walk s) l.context
    ≤ l.plan.left + entered_run M l.walk.concrete.now (selected_in shown l.walk) l.initial.context)
