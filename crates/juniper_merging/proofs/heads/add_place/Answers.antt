use Rattle.std.proofs.Common.{◌<◌, ap, length, refl, rules, sym, ◌++◌, ◌∙◌}
use Rattle.juniper_merging.specs.Uniting.{list_or_none}
use Rattle.juniper_merging.specs.declared.heads.Head.{Head}
use Rattle.juniper_merging.proofs.Listing.{got-at}
use Rattle.juniper_merging.proofs.Told.{some-same}
use Rattle.juniper_merging.proofs.heads.add_place.Goals as goal

pub returns-in_ok-put_below : goal.returns-in_ok-put_below
returns-in_ok-put_below c head there =
    let heads = c.args.heads.now.items in
    let p = c.args.place in
    let was = c.index_mut-head.result.now in
    let below : p < length heads = search rules in
    let same = some-same (sym (got-at heads p was was below c.index_mut-head.ensures.value) ∙ there) in
    (_, refl, ap (λ (h : Head). h.field) same, refl, c.in_ok-put_below.ensures ∙ ap (λ (h : Head). h.below.items ++ list_or_none c.args.vertex.now.below) same)
