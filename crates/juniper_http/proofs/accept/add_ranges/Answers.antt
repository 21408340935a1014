use Rattle.std.proofs.Common.{◌++◌, map, rules}
use Rattle.juniper_http.specs.Accept.{ranges_in, view_range}
use Rattle.juniper_http.proofs.Ranges.{next_part}
use Rattle.juniper_http.proofs.accept.add_ranges.Goals as goal

pub parts-preserved : goal.parts-preserved
parts-preserved c = (
  search rules,
  next_part (map view_range c.parts.made.items) _ (map view_range c.args.ranges.items ++ ranges_in c.args.text.now)
      c.parts.rest.now c.cut.result.0.now c.cut.result.1.now c.cut.ensures.before c.cut.ensures.after c.in_ok-made.ensures c.parts.invariant.1,
)
