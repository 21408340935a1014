use Rattle.std.proofs.Common.{◌<◌, length, rules}
use Rattle.juniper_merging.proofs.Answered.{clash-put}
use Rattle.juniper_merging.proofs.conflicts.put_at.Goals as goal

pub returns-then-place-len : goal.returns-then-place-len
returns-then-place-len c =
    let below : c.args.place < length c.args.row.now.items = search rules in
    clash-put c.args.row.now.items c.args.place c.args.clash below
