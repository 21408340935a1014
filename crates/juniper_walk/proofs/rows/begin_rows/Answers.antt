use Rattle.std.proofs.Common.{◌+◌, map, refl, sym, ap, subst, arith}
use Rattle.juniper_conversions.specs.ErrorView.{view_listed}
use Rattle.juniper_walk.specs.Rows.{AreFresh}
use Rattle.juniper_walk.proofs.Waiting.{fresh-more}
use Rattle.juniper_walk.proofs.rows.begin_rows.Goals as goal

pub loop-row-init : goal.loop-row-init
loop-row-init g c = subst (AreFresh g.S.ScalarValue.shown 0) (sym c.in_ok-rows.ensures.items) tt

pub loop-row-preserved : goal.loop-row-preserved
loop-row-preserved g c =
    let shown = g.S.ScalarValue.shown in
    fresh-more shown c.loop-row._row (c.loop-row._row + 1) c.loop-row.rows.items c.push.new.self.items _ refl c.in_ok-push.ensures.items c.loop-row.invariant
    (record {
      object = c.in_ok-object.object;
      stands = refl;
      empty = c.in_ok-object.ensures;
      errors = ap (map (view_listed shown)) c.new.ensures.items;
    })

pub returns : goal.returns
returns g c =
    let low = c.loop-row.auto._row-end in
    let high = c.loop-row-test.false in
    subst (λ n. AreFresh g.S.ScalarValue.shown n c.loop-row.rows.items) {x = c.loop-row._row} {y = c.args.count} (omega (arith, low, high)) c.loop-row.invariant
