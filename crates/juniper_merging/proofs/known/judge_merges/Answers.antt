use Rattle.std.proofs.Common.{true}
use Rattle.juniper_merging.specs.Questions.{passes}
use Rattle.juniper_merging.proofs.Looked.{not-turned}
use Rattle.juniper_merging.proofs.known.judge_merges.Goals as goal

pub returns : goal.returns
returns c vs t H is told merges =
    let clash = c.in_ok-clash.clash in
    c.in_ok-judge.ensures vs t H is ((c.in_ok-clash.ensures vs H told).good true
    (not-turned (passes true clash) c.is_clash.result true c.is_clash.ensures merges))
