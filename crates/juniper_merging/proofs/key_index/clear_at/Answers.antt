use Rattle.std.proofs.Common.{◌<◌, ◌≤◌, length, rules}
use Rattle.juniper_merging.proofs.Listing.{listed-none, past-listed}
use Rattle.juniper_merging.proofs.key_index.clear_at.Goals as goal

pub returns-then-place-len : goal.returns-then-place-len
returns-then-place-len g c =
    let ls = c.args.lists.now.items in
    let below : c.args.place < length ls = search rules in
    listed-none ls c.args.place c.clear.new.self below c.clear.ensures.items

pub returns-else-place-len : goal.returns-else-place-len
returns-else-place-len g c =
    let ls = c.args.lists.now.items in
    let past : length ls ≤ c.args.place = search rules in
    past-listed ls c.args.place past
