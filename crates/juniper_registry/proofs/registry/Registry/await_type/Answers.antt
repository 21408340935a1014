use Rattle.std.proofs.Common.{◌≡◌, false, is_some, string_bytes, subst, sym, ◌∙◌}
use Rattle.graphql_spec.specs.Schema.{placeholder}
use Rattle.juniper_meta.specs.MetaView.{unnamed_meta, view_meta}
use Rattle.juniper_registry.specs.Entries.{Awaits, table}
use Rattle.juniper_registry.proofs.Placeholders.{awaiting_there, own_placeholder, own_put, put_awaits, put_keeps}
use Rattle.juniper_registry.proofs.registry.Registry.await_type.Goals as goal

pub returns-then-stands-clause-awaited : goal.returns-then-stands-clause-awaited
returns-then-stands-clause-awaited g c = awaiting_there c.args.name.now (table g.S.ScalarValue.shown c.args.self.now.types) (cc)

pub invariant_of-self : goal.invariant_of-self
invariant_of-self g c =
    let shown = g.S.ScalarValue.shown in
    let made : view_meta shown c.into_meta.result ≡ unnamed_meta placeholder = c.into_meta.ensures ∙ c.new.ensures.shown in
    record {
      keyed = own_put c.put.result (string_bytes c.in_ok-key.key) (view_meta shown c.into_meta.result) (table shown c.args.self.now.types)
          (table shown c.put.new.types) c.args.self.now.keyed
          (λ n y. own_placeholder n (view_meta shown c.into_meta.result) made) c.put.ensures.put c.put.ensures.kept;
    }

pub returns-clause-awaited : goal.returns-clause-awaited
returns-clause-awaited g c =
    let shown = g.S.ScalarValue.shown in let old = table shown c.args.self.now.types in let new = table shown c.put.new.types in
    let made : view_meta shown c.into_meta.result ≡ unnamed_meta placeholder = c.into_meta.ensures ∙ c.new.ensures.shown in
    let key : string_bytes c.in_ok-key.key ≡ c.args.name.now = c.in_ok-key.ensures.ok in
    let free : is_some (old c.args.name.now) ≡ false = cc in
    subst (λ b. Awaits c.put.result b old new) key
    (put_awaits c.put.result (string_bytes c.in_ok-key.key) (view_meta shown c.into_meta.result) old new
    (subst (λ b. is_some (old b) ≡ false) (sym key) free) made c.put.ensures.put)

pub returns-clause-added : goal.returns-clause-added
returns-clause-added g c = put_keeps c.put.result c.args.name.now (table g.S.ScalarValue.shown c.args.self.now.types)
    (table g.S.ScalarValue.shown c.put.new.types) (returns-clause-awaited g c) c.put.ensures.kept
