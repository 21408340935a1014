use Rattle.std.proofs.Common.{◌≡◌, ◌∷◌, [], true}
use Rattle.graphql_spec.specs.VariableUses.{is_reached}
use Rattle.juniper_written.specs.WrittenView.{named}
use Rattle.juniper_written.proofs.Grouping.{leads-itself, none-holds, put-holds}
use Rattle.juniper_written.proofs.groups.roots_before.Goals as goal

pub loop-index-init : goal.loop-index-init
loop-index-init c = λ fs are. none-holds (λ k x. is_reached fs (x.name.now ∷ []) k ≡ true) (named c.new-roots.result) c.new-roots.ensures

pub loop-index-preserved : goal.loop-index-preserved
loop-index-preserved c = λ fs are.
    c.in_ok-hand_on.ensures fs are (put-holds (λ k x. is_reached fs (x.name.now ∷ []) k ≡ true) (named c.loop-index.roots) (named c.put_first.new.self) _ _
    c.in_ok-put_first.ensures (c.loop-index.invariant fs are) (leads-itself fs _))
