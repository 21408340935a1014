use Rattle.std.proofs.Common.{[], subst, sym, unwrap_or, ◌∙◌}
use Rattle.graphql_spec.specs.Introspected.{own_name}
use Rattle.graphql_spec.specs.Introspection.{answer_at, if_any, says}
use Rattle.graphql_spec.specs.Resolvers.{answered}
use Rattle.graphql_spec.specs.SeenNodes.{map_tree}
use Rattle.juniper_values.specs.ResolvedView.{Answers}
use Rattle.juniper_schema.specs.SchemaView.{view_schema}
use Rattle.juniper_values.specs.ArgumentView.{view_arguments}
use Rattle.juniper_intro.specs.HandleView.{of_handle, view_type_place}
use Rattle.juniper_intro.specs.Handles.{type_held}
use Rattle.juniper_intro.specs.Introspectors.{names_of, number_of, schema_of}
use Rattle.juniper_intro.specs.References.{view_reference}
use Rattle.juniper_intro.specs.Shapes.{shape_in}
use Rattle.juniper_intro.proofs.Looked.{kind-looked}
use Rattle.juniper_intro.proofs.introspector.Introspector.of_site.Goals as goal

pub returns-in-kind : goal.returns-in-kind
unfolding answer_at type_held
returns-in-kind g c =
    let shown = g.S.ScalarValue.shown in
    let site = c.args.site.now in
    let s = view_schema shown (schema_of c.args.self.now) in
    let o = shape_in shown site.declared in
    subst (λ f. Answers shown c.text_or_null.result (answered (map_tree of_handle (answer_at f
    (type_held s (names_of c.args.self.now) (number_of c.args.self.now) (view_type_place site.place) site.depth (view_reference site.reference) o
    (number_of c.args.self.now (unwrap_or (own_name (view_reference site.reference)) [])) (view_arguments shown c.args.arguments.now))))))
    (sym c.in-kind.is)
    (subst (λ k. Answers shown c.text_or_null.result (answered (map_tree of_handle (if_any says k))))
    (c.kind_of.ensures ∙ kind-looked s (view_reference site.reference) o c.requires.shape) c.text_or_null.ensures)
