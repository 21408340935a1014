use Rattle.std.proofs.Common.{sym, subst, ◌≡◌, ◌∙◌}
use Rattle.graphql_spec.specs.Shown.{Name}
use Rattle.juniper_meta.specs.MetaView.{Meta, view_meta}
use Rattle.juniper_registry.specs.Entries.{awaiting_each}
use Rattle.juniper_registry.specs.Referred.{referred}
use Rattle.juniper_registry.specs.RegistryView.{view_registry}
use Rattle.juniper_registry.proofs.Registered.{registered}
use Rattle.juniper_registry.proofs.registry.Registry.register.Goals as goal

pub returns : goal.returns
returns g c =
    let shown = g.S.ScalarValue.shown in
    let old = view_registry shown c.args.self.now in let between = view_registry shown c.await_referred.new.self in
    let m = view_meta shown c.in_ok-meta.meta in
    rw c.name_of-name.ensures
    (registered c.name_of-name.result.now m (g.T.GraphQLType.declaration c.args.info.now) old between (view_registry shown c.declare.new.self)
    (sym c.declares.ensures ∙ c.if-declares.false) c.in_ok-meta.ensures
    (subst (λ (d : Meta). (n : Name) → between n ≡ awaiting_each (referred d.shape) old n) c.in_ok-meta.ensures c.in_ok-await_referred.ensures.awaited)
    c.in_ok-declare.ensures.put)
