use Rattle.std.proofs.Common.{◌∷◌, map, refl}
use Rattle.graphql_spec.specs.Types.{innermost}
use Rattle.juniper_meta.specs.MetaView.{view_field}
use Rattle.juniper_registry.specs.Entries.{awaiting_each}
use Rattle.juniper_registry.specs.Referred.{fields_refer, inputs_refer}
use Rattle.juniper_registry.specs.RegistryView.{view_registry}
use Rattle.juniper_registry.proofs.Awaited.{keeps_on, keeps_still, turn}
use Rattle.juniper_registry.proofs.registry.Registry.await_fields.Goals as goal

pub loop-field-init : goal.loop-field-init
loop-field-init g c = (λ n. refl, keeps_still (view_registry g.S.ScalarValue.shown c.args.self.now))

pub loop-field-preserved : goal.loop-field-preserved
loop-field-preserved g c =
    let shown = g.S.ScalarValue.shown in
    let l = c.loop-field in let xs = c.args.fields.now in let f = view_field shown c.field-item.result in (
      turn (λ fields. fields_refer (map (view_field shown) fields)) (innermost f.of_type ∷ inputs_refer f.arguments) xs l.field-index c.field-item.result
          (view_registry shown l.self) (view_registry shown c.await_field.new.self)
          (awaiting_each (fields_refer (map (view_field shown) xs)) (view_registry shown c.args.self.now)) refl c.loop-field-test.true c.field-item.is
          c.in_ok-await_field.ensures.awaited l.invariant.0,
      keeps_on (view_registry shown c.args.self.now) (view_registry shown l.self)
          (view_registry shown c.await_field.new.self) l.invariant.1 c.in_ok-await_field.ensures.added,
    )
