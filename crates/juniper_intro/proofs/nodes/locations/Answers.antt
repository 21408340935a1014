use Rattle.std.proofs.Common.{map, ap, ◌∙◌}
use Rattle.std.proofs.lemmas.List.{take_all}
use Rattle.graphql_spec.specs.Introspection.{says}
use Rattle.graphql_spec.specs.Resolvers.{answered, leaf}
use Rattle.graphql_spec.specs.Shown.{text}
use Rattle.juniper_meta.specs.MetaView.{view_location}
use Rattle.juniper_meta.specs.declared.directive.DirectiveLocation.TheVariants.{Query}
use Rattle.juniper_values.proofs.Resolutions.{view-Scalar}
use Rattle.juniper_values.specs.ResolvedView.{view_resolved}
use Rattle.juniper_intro.proofs.Collected.{says-listed, taken-more}
use Rattle.juniper_intro.proofs.nodes.locations.Goals as goal

pub loop-location-preserved : goal.loop-location-preserved
unfolding says
loop-location-preserved g c =
    let shown = g.S.ScalarValue.shown in
    taken-more (view_resolved shown) view_location (λ n. says n) c.args.locations.now c.loop-location.location-index Query c.loop-location.names.items
    c.push.new.self.items _ c.loop-location-test.true
    c.in_ok-push.ensures.items (view-Scalar shown _ ∙ ap leaf (c.in_ok-from_text.ensures ∙ ap text (c.in_ok-name.ensures.ok ∙ c.name.ensures)))
    c.loop-location.invariant

pub returns : goal.returns
returns g c =
    ap answered (says-listed g.S.ScalarValue.shown (map view_location c.args.locations.now) c.loop-location.names
    (c.loop-location.invariant ∙ ap (λ l. map (λ n. says n) (map view_location l))
    (take_all c.loop-location.location-index c.args.locations.now c.loop-location-test.false)))
