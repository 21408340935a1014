use Rattle.std.proofs.Common.{◌≡◌, refl}
use Rattle.juniper_written.specs.WrittenView.{named}
use Rattle.juniper_written.proofs.Grouping.{none-holds, put-holds}
use Rattle.juniper_written.proofs.groups.each_alone.Goals as goal

pub loop-index-init : goal.loop-index-init
loop-index-init c = none-holds (λ k x. x.name.now ≡ k) (named c.new-roots.result) c.new-roots.ensures

pub loop-index-preserved : goal.loop-index-preserved
loop-index-preserved c =
    put-holds (λ k x. x.name.now ≡ k) (named c.loop-index.roots) (named c.put_first.new.self) _ _ c.in_ok-put_first.ensures c.loop-index.invariant refl
