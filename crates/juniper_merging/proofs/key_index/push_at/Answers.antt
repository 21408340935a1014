use Rattle.std.proofs.Common.{◌<◌, length, rules}
use Rattle.juniper_merging.proofs.Listing.{got-at, listed-more}
use Rattle.juniper_merging.proofs.key_index.push_at.Goals as goal

pub returns-in_ok-push : goal.returns-in_ok-push
returns-in_ok-push g c =
    let ls = c.args.lists.now.items in
    let below : c.args.place < length ls = search rules in
    listed-more ls c.args.place c.args.thing c.index_mut.result.now c.push.new.self below
    (got-at ls c.args.place c.index_mut.result.now c.index_mut.result.now below c.index_mut.ensures.value) c.in_ok-push.ensures.items
