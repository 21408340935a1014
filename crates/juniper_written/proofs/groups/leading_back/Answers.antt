use Rattle.std.proofs.Common.{◌≡◌, ◌∷◌, [], true}
use Rattle.graphql_spec.specs.VariableUses.{is_reached}
use Rattle.juniper_written.specs.WrittenView.{named}
use Rattle.juniper_written.proofs.Grouping.{none-holds}
use Rattle.juniper_written.proofs.groups.leading_back.Goals as goal

pub loop-name-init : goal.loop-name-init
loop-name-init c = (
  λ fs led. none-holds (λ k x. is_reached fs (x.name.now ∷ []) k ≡ true) (named c.new-groups.result) c.new-groups.ensures,
  λ fs are. none-holds (λ k x. is_reached fs (k ∷ []) x.name.now ≡ true) (named c.new-groups.result) c.new-groups.ensures,
)

pub loop-name-preserved : goal.loop-name-preserved
loop-name-preserved c = (
  λ fs led. c.in_ok-put_leading.ensures.led fs led (c.loop-name.invariant.0 fs led),
  λ fs are. c.in_ok-put_leading.ensures.back fs are (c.loop-name.invariant.1 fs are),
)
