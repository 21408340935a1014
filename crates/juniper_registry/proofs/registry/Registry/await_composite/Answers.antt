use Rattle.std.proofs.Common.{map, refl}
use Rattle.juniper_meta.specs.MetaView.{view_field, view_names}
use Rattle.juniper_registry.specs.Referred.{fields_refer}
use Rattle.juniper_registry.specs.RegistryView.{view_registry}
use Rattle.juniper_registry.proofs.Awaited.{each_behind, keeps_on}
use Rattle.juniper_registry.proofs.registry.Registry.await_composite.Goals as goal

pub returns-clause-awaited : goal.returns-clause-awaited
returns-clause-awaited g c =
    let shown = g.S.ScalarValue.shown in
    each_behind c.await_names.result (fields_refer (map (view_field shown) c.args.fields.now)) (view_names c.args.interfaces.now) _
    (view_registry shown c.args.self.now) (view_registry shown c.await_fields.new.self)
    (view_registry shown c.await_names.new.self) refl c.in_ok-await_fields.ensures.awaited c.await_names.ensures.awaited

pub returns-clause-added : goal.returns-clause-added
returns-clause-added g c =
    let shown = g.S.ScalarValue.shown in
    keeps_on (view_registry shown c.args.self.now) (view_registry shown c.await_fields.new.self)
    (view_registry shown c.await_names.new.self) c.await_fields.ensures.added c.await_names.ensures.added
