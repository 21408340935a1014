use Rattle.juniper_syntax.proofs.Indexes.{empty-index, none-distinct}
use Rattle.juniper_syntax.proofs.keys.Keys.with_capacity.Goals as goal

pub invariant_of-result : goal.invariant_of-result
invariant_of-result c = (none-distinct _ c.in_ok-with_capacity.ensures.items, empty-index c.new.result _ c.new.ensures.number)
