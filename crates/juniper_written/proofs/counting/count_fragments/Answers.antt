use Rattle.juniper_written.proofs.Keeping.{kept-none}
use Rattle.juniper_written.proofs.counting.count_fragments.Goals as goal

pub returns : goal.returns
returns g c = λ m d are.
    c.in_ok-count_in_order.ensures m d are (c.in_ok-order.ensures d are) (kept-none m c.new-kept.result c.new-kept.ensures.empty)
