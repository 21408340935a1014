use Rattle.std.proofs.Common.{◌∙◌, is_some, sym, ap}
use Rattle.juniper_walk.proofs.Columns.{first-found, first-none, first-skipped, item-at}
use Rattle.juniper_walk.proofs.rows.first_standing.Goals as goal

pub loop-number-preserved : goal.loop-number-preserved
loop-number-preserved g c =
    let i = c.loop-number.number in
    let xs = c.args.spots.now in
    let rows = c.args.rows.now in
    let below = c.loop-number-test.true in
    let x = item-at xs i below in
    sym (first-skipped xs rows i x.0 c.index-rows-number.result below c.requires x.1 c.index-rows-number.is
    (ap (λ q. is_some q.object) c.index-rows-number.is ∙ (sym c.is_some.ensures ∙ c.if-is_some.false))) ∙ c.loop-number.invariant

pub returns-then-is_some : goal.returns-then-is_some
returns-then-is_some g c =
    let i = c.loop-number.number in
    let xs = c.args.spots.now in
    let rows = c.args.rows.now in
    sym (first-found xs rows i c.index-spots-number.result c.index-rows-number.result c.loop-number-test.true c.requires c.index-spots-number.is
    c.index-rows-number.is (ap (λ q. is_some q.object) c.index-rows-number.is ∙ (sym c.is_some.ensures ∙ c.if-is_some.true))) ∙ c.loop-number.invariant

pub returns : goal.returns
returns g c =
    sym (first-none c.args.spots.now c.args.rows.now c.loop-number.number c.loop-number-test.false c.requires) ∙ c.loop-number.invariant
