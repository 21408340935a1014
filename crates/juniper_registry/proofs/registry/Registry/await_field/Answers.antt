use Rattle.std.proofs.Common.{[], ◌∷◌, ap₂}
use Rattle.graphql_spec.specs.Types.{innermost}
use Rattle.juniper_meta.specs.MetaView.{view_field}
use Rattle.juniper_registry.specs.Referred.{inputs_refer}
use Rattle.juniper_registry.specs.RegistryView.{view_registry}
use Rattle.juniper_registry.proofs.Awaited.{each_behind, keeps_on}
use Rattle.juniper_registry.proofs.registry.Registry.await_field.Goals as goal

pub returns-clause-awaited : goal.returns-clause-awaited
returns-clause-awaited g c =
    let shown = g.S.ScalarValue.shown in let f = view_field shown c.args.field.now in
    each_behind c.await_inputs.result (c.innermost_name.result.now ∷ []) _ (innermost f.of_type ∷ inputs_refer f.arguments)
    (view_registry shown c.args.self.now) (view_registry shown c.await_type.new.self)
    (view_registry shown c.await_inputs.new.self) (ap₂ (λ k inputs. k ∷ inputs_refer inputs) c.innermost_name.ensures c.declared_arguments.ensures)
    c.in_ok-await_type.ensures.awaited c.await_inputs.ensures.awaited

pub returns-clause-added : goal.returns-clause-added
returns-clause-added g c =
    let shown = g.S.ScalarValue.shown in
    keeps_on (view_registry shown c.args.self.now) (view_registry shown c.await_type.new.self)
    (view_registry shown c.await_inputs.new.self) c.await_type.ensures.added c.await_inputs.ensures.added
