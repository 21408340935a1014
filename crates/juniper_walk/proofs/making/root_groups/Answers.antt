use Rattle.std.proofs.Common.{ap, ◌∙◌}
use Rattle.juniper_lookahead.specs.Collected.{view_all}
use Rattle.juniper_walk.proofs.Kept.{same-made}
use Rattle.juniper_walk.proofs.making.root_groups.Goals as goal

pub returns : goal.returns
returns g c = (
  same-made g.S.ScalarValue.shown c.args.collector.now (g.R.Resolver.asks c.args.collector.now.possible)
      (g.R.Conditions.possible c.args.collector.now.possible) c.args.concrete.now _ _ c.args.plan.now _ _
      (ap (view_all g.S.ScalarValue.shown c.args.collector.now) c.deref.ensures.value ∙ c.in_ok-fields.ensures) c.in_ok-groups.ensures.0,
  c.in_ok-groups.ensures.1,
)
