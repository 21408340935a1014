use Rattle.std.proofs.Common.{◌+◌, [], ◌∷◌, ap, drop, map, refl, sym}
use Rattle.juniper_meta.specs.MetaView.{view_argument}
use Rattle.juniper_registry.specs.Entries.{awaiting_each}
use Rattle.juniper_registry.specs.Referred.{inputs_refer}
use Rattle.juniper_registry.specs.RegistryView.{view_registry}
use Rattle.juniper_registry.proofs.Awaited.{keeps_on, keeps_still, turn}
use Rattle.juniper_registry.proofs.registry.Registry.await_inputs.Goals as goal

pub loop-input-init : goal.loop-input-init
loop-input-init g c = (λ n. refl, keeps_still (view_registry g.S.ScalarValue.shown c.args.self.now))

pub loop-input-preserved : goal.loop-input-preserved
loop-input-preserved g c =
    let shown = g.S.ScalarValue.shown in
    let l = c.loop-input in let xs = c.args.inputs.now in (
      turn (λ inputs. inputs_refer (map (view_argument shown) inputs)) (c.innermost_name.result.now ∷ []) xs l.input-index c.input-item.result
          (view_registry shown l.self) (view_registry shown c.await_type.new.self)
          (awaiting_each (inputs_refer (map (view_argument shown) xs)) (view_registry shown c.args.self.now))
          (ap (λ b. b ∷ inputs_refer (map (view_argument shown) (drop (l.input-index + 1) xs))) (sym c.innermost_name.ensures)) c.loop-input-test.true
          c.input-item.is c.in_ok-await_type.ensures.awaited l.invariant.0,
      keeps_on (view_registry shown c.args.self.now) (view_registry shown l.self)
          (view_registry shown c.await_type.new.self) l.invariant.1 c.in_ok-await_type.ensures.added,
    )
