use Rattle.std.proofs.Common.{sym, ◌∙◌}
use Rattle.juniper_merging.proofs.Listing.{listed-at, none-listed}
use Rattle.juniper_merging.proofs.Vertices.{found-at, missing-at}
use Rattle.juniper_merging.proofs.key_index.list_at.Goals as goal

pub returns-in-Some : goal.returns-in-Some
returns-in-Some g c =
    let ls = c.args.lists.now in
    c.as_slice.ensures.value ∙ sym (listed-at ls c.args.number c.in-Some.list.now
    (found-at ls c.args.number c.get.result c.in-Some.list c.get.ensures.lookup.3 c.in-Some.is))

pub returns-in-None : goal.returns-in-None
returns-in-None g c =
    let ls = c.args.lists.now in
    sym (none-listed ls c.args.number (missing-at ls c.args.number c.get.result c.get.ensures.lookup.3 c.in-None.is))
