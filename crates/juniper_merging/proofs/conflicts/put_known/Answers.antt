use Rattle.std.proofs.Common.{◌<◌, length, rules}
use Rattle.juniper_merging.proofs.Answered.{row-put, rows-put}
use Rattle.juniper_merging.proofs.Listing.{got-at}
use Rattle.juniper_merging.proofs.conflicts.put_known.Goals as goal

pub returns-then-number-len : goal.returns-then-number-len
returns-then-number-len c =
    let known = c.args.known.now.items in
    let set = c.args.number in
    let below : set < length known = search rules in
    let was = c.index_mut.result.now in
    let now = c.put_at.new.row in
    row-put set c.args.place c.args.clash known _ was now (rows-put known set now below)
    (got-at known set was was below c.index_mut.ensures.value) c.put_at.ensures
