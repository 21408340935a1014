use Rattle.std.proofs.Common.{◌≡◌, suc, length, ap, arith}
use Rattle.std.proofs.lemmas.List.{length-map}
use Rattle.juniper_written.specs.WrittenView.{view_names}
use Rattle.juniper_written.specs.SpreadsView.{spread_by, step_count}
use Rattle.juniper_written.proofs.Looking.{found-is, missing-is}
use Rattle.juniper_written.proofs.walk.enter.Goals as goal

pub returns-after-loop-inner : goal.returns-after-loop-inner
unfolding step_count
returns-after-loop-inner c =
    let n = length-map c.in-Some.names.now.items (λ k. k.now) in
    let is : step_count (spread_by c.args.spreads.now c.args.name.now) ≡ suc (length (view_names c.in-Some.names.now.items)) =
    ap step_count (found-is c.args.spreads.now c.args.name.now c.get.result c.in-Some.names c.get.ensures c.in-Some.is) in
    let l : length c.deref-inner-items.result.now ≡ length c.in-Some.names.now.items = ap length c.deref-inner-items.ensures.value in
    let i = c.loop-inner.invariant in
    let t = c.loop-inner-test.false in
    omega (arith, n, is, l, i, t)

pub returns-in-None : goal.returns-in-None
unfolding step_count
returns-in-None c =
    let is = ap step_count (missing-is c.args.spreads.now c.args.name.now c.get.result c.get.ensures c.in-None.is) in
    omega (arith, is)
