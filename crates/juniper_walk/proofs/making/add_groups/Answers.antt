use Rattle.std.proofs.Common.{◌∙◌, subst, sym}
use Rattle.juniper_lookahead.specs.Collected.{view_all}
use Rattle.juniper_walk.specs.Plans.{AreAdded}
use Rattle.juniper_walk.proofs.Gathering.{made-added}
use Rattle.juniper_walk.proofs.making.add_groups.Goals as goal
use Rattle.juniper_walk.proofs.making.add_groups.Goals.{then-branch+in_ok-add_each}
use Rattle.juniper_walk.proofs.making.add_groups.Goals.{else-branch+then-fields-le-FEW+in_ok-add_few, else-branch+else-fields-le-FEW+in_ok-add_grouped}

pub returns : goal.returns
returns g c =
    let shown = g.S.ScalarValue.shown in
    let collector = c.args.collector.now in
    let asks = g.R.Resolver.asks collector.possible in
    let possible = g.R.Conditions.possible collector.possible in
    let fields = view_all shown collector c.args.fields.now in
    let of = AreAdded shown collector asks possible c.args.concrete.now fields c.args.plan.now in
    let added : of c.if-branch.plan = elim c.if-branch.branch [
      | then-branch+in_ok-add_each w ↦ subst of (sym w.plan-is) w.in_ok-add_each.ensures
      | else-branch+then-fields-le-FEW+in_ok-add_few w ↦ subst of (sym w.plan-is) w.in_ok-add_few.ensures
      | else-branch+else-fields-le-FEW+in_ok-add_grouped w ↦ subst of (sym w.plan-is) w.in_ok-add_grouped.ensures
    ] in (
      made-added shown collector asks possible c.args.concrete.now fields c.args.plan.now c.if-branch.plan _ added
          (c.len.ensures ∙ c.args.plan.now.groups.ok.0) (c.len-2.ensures ∙ c.if-branch.plan.groups.ok.0),
      added.left,
    )
