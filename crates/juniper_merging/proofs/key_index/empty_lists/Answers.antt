use Rattle.juniper_merging.proofs.Listing.{empty-more, nothing-listed}
use Rattle.juniper_merging.proofs.key_index.empty_lists.Goals as goal

pub loop-index-init : goal.loop-index-init
loop-index-init g c = λ i. nothing-listed _ i c.in_ok-lists.ensures.items

pub loop-index-preserved : goal.loop-index-preserved
loop-index-preserved g c = λ i. empty-more c.loop-index.lists.items _ _ c.new.ensures.items c.in_ok-push.ensures.items c.loop-index.invariant i
