use Rattle.std.proofs.Common.{◌<◌, length, refl, rules}
use Rattle.juniper_merging.proofs.Distances.{asked-same, same-places}
use Rattle.juniper_merging.proofs.Listing.{got-at}
use Rattle.juniper_merging.proofs.asks.forget_marks.Goals as goal

pub returns-then-number-len : goal.returns-then-number-len
returns-then-number-len c =
    let asks = c.args.asks.now.items in
    let set = c.args.number in
    let below : set < length asks = search rules in
    let was = c.index_mut.result.now in
    asked-same asks set was _ below (got-at asks set was was below c.index_mut.ensures.value) (same-places _ was refl refl)
