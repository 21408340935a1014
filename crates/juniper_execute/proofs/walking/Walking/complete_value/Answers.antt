use Rattle.std.proofs.Common.{Ok, ap, subst, ◌+◌, ◌∙◌}
use Rattle.graphql_spec.specs.GroupLaws.{all_starts}
use Rattle.juniper_conversions.specs.PathView.{path_place}
use Rattle.juniper_lookahead.specs.Collected.{view_all}
use Rattle.juniper_syntax.specs.ValueView.{view_value}
use Rattle.juniper_walk.specs.Budget.{fields_in}
use Rattle.juniper_walk.specs.Completing.{CompletesAsked}
use Rattle.juniper_walk.specs.declared.walked.Stop.{Stop}
use Rattle.juniper_execute.proofs.Asked.{group-whole}
use Rattle.juniper_execute.proofs.Bounds.{bounded-grouped}
use Rattle.juniper_execute.proofs.RootPlans.{still}
use Rattle.juniper_execute.proofs.walking.Walking.complete_value.Goals as goal

pub returns-in-Ok-clause-plan : goal.returns-in-Ok-clause-plan
returns-in-Ok-clause-plan g c = record { standing = c.requires.standing; grown = still c.args.plan.now }

pub returns-in-Ok-clause-completed : goal.returns-in-Ok-clause-completed
returns-in-Ok-clause-completed g c =
    let shown = g.S.ScalarValue.shown in
    let collector = c.args.walk.now.collector in
    let made = c.group_of-group.result in
    let whole = group-whole shown collector made.first.now c.fields.result.now made.others.now c.group_of-group.ensures.first c.group_of-group.ensures.others
    ∙ ap (view_all shown collector) c.fields.ensures in
    rw c.in-Joined.is (subst (λ l. CompletesAsked {E = Stop} shown all_starts (g.R.Completer.world collector.possible) (path_place c.args.path.now.value) l
    c.args.asked (Ok c.in-Ok.walked)) whole c.in-Ok.ensures.completed)

pub returns-in-Grouped-clause-counted : goal.returns-in-Grouped-clause-counted
returns-in-Grouped-clause-counted g c =
    bounded-grouped _ c.in-Grouped.is (λ w. fields_in (view_value g.S.ScalarValue.shown w.value) + c.complete_value.new.plan.left) c.args.plan.now.left
    c.complete_value.result c.complete_value.ensures.counted
