use Rattle.std.proofs.Common.{◌+◌, [], ◌∷◌, ap, drop, refl, sym}
use Rattle.juniper_meta.specs.MetaView.{view_names}
use Rattle.juniper_registry.specs.Entries.{awaiting_each}
use Rattle.juniper_registry.specs.RegistryView.{view_registry}
use Rattle.juniper_registry.proofs.Awaited.{keeps_on, keeps_still, turn}
use Rattle.juniper_registry.proofs.registry.Registry.await_names.Goals as goal

pub loop-name-init : goal.loop-name-init
loop-name-init g c = (λ n. refl, keeps_still (view_registry g.S.ScalarValue.shown c.args.self.now))

pub loop-name-preserved : goal.loop-name-preserved
loop-name-preserved g c =
    let shown = g.S.ScalarValue.shown in
    let l = c.loop-name in let xs = c.args.names.now in (
      turn view_names (c.as_str.result.now ∷ []) xs l.name-index c.name-item.result (view_registry shown l.self) (view_registry shown c.await_type.new.self)
          (awaiting_each (view_names xs) (view_registry shown c.args.self.now))
          (ap (λ b. b ∷ view_names (drop (l.name-index + 1) xs)) (sym c.as_str.ensures.value)) c.loop-name-test.true c.name-item.is
          c.in_ok-await_type.ensures.awaited l.invariant.0,
      keeps_on (view_registry shown c.args.self.now) (view_registry shown l.self)
          (view_registry shown c.await_type.new.self) l.invariant.1 c.in_ok-await_type.ensures.added,
    )
