use Rattle.std.proofs.Common.{ap, map, ◌∙◌}
use Rattle.graphql_spec.specs.Placed.{directive_in, directive_named}
use Rattle.juniper_meta.specs.MetaView.{view_directive}
use Rattle.juniper_schema.proofs.schema.SchemaType.directive_by_name.Goals as goal

pub returns : goal.returns
unfolding directive_named
returns g c = c.find_directive.ensures ∙ ap (λ ds. directive_in ds c.args.name.now)
    (ap (map (view_directive g.S.ScalarValue.shown)) c.deref.ensures.value ∙ c.args.self.now.directed)
