use Rattle.std.proofs.Common.{refl, sym, ◌∙◌}
use Rattle.juniper_walk.proofs.Kept.{below-kept, counted, found-below, still-counted}
use Rattle.juniper_walk.proofs.making.groups_below.Goals as goal

pub made_below-requires : goal.made_below-requires
made_below-requires g c =
    counted g.S.ScalarValue.shown c.args.walk.now.collector (g.R.Resolver.asks c.args.walk.now.collector.possible)
    (g.R.Conditions.possible c.args.walk.now.collector.possible) c.args.plan.now c.args.group.0
    c.requires.standing c.requires.bound

pub keep_below-requires : goal.keep_below-requires
keep_below-requires g c =
    still-counted g.S.ScalarValue.shown c.args.walk.now.collector (g.R.Resolver.asks c.args.walk.now.collector.possible)
    (g.R.Conditions.possible c.args.walk.now.collector.possible) c.args.plan.now c.args.group.0
    c.args.concrete.now _ _ c.requires.standing c.requires.bound c.requires.selected _ c.in_ok-groups-in-None.ensures.0

pub returns-in-Some : goal.returns-in-Some
returns-in-Some g c = (
  found-below g.S.ScalarValue.shown c.args.walk.now.collector (g.R.Resolver.asks c.args.walk.now.collector.possible)
      (g.R.Conditions.possible c.args.walk.now.collector.possible) c.args.plan.now c.args.group.0
      c.args.concrete.now c.in-Some.groups _ c.requires.standing c.requires.bound c.requires.selected (sym c.in-Some.is ∙ c.made_below.ensures),
  refl,
)

pub returns-in_ok-keep_below-in-None : goal.returns-in_ok-keep_below-in-None
returns-in_ok-keep_below-in-None g c = (
  below-kept g.S.ScalarValue.shown c.args.walk.now.collector (g.R.Resolver.asks c.args.walk.now.collector.possible)
      (g.R.Conditions.possible c.args.walk.now.collector.possible) c.args.plan.now c.args.group.0
      c.args.concrete.now c.in_ok-groups-in-None.groups _ c.requires.standing c.requires.bound c.requires.selected _ c.in_ok-groups-in-None.ensures.0 _
      c.in_ok-keep_below-in-None.ensures,
  c.in_ok-keep_below-in-None.ensures.left ∙ c.in_ok-groups-in-None.ensures.1,
)
