use Rattle.graphql_spec.specs.Types.{innermost}
use Rattle.graphql_spec.specs.Fields.{typename_field}
use Rattle.juniper_meta.specs.MetaView.{view_field}
use Rattle.juniper_registry.proofs.Lists.{seen_last}
use Rattle.juniper_registry.proofs.registry.Registry.with_typename.Goals as goal

pub returns-clause-awaited : goal.returns-clause-awaited
unfolding innermost
returns-clause-awaited g c = c.in_ok-typename.ensures.awaited

pub returns-clause-made : goal.returns-clause-made
unfolding typename_field
returns-clause-made g c = seen_last (view_field g.S.ScalarValue.shown) c.push.new.self.items c.args.fields.items c.in_ok-typename.typename typename_field
    c.in_ok-push.ensures.items c.in_ok-typename.ensures.made
