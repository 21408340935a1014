use Rattle.std.proofs.Common.{◌≡◌, ℕ, Option, [], unwrap_or, subst, ap, ◌∙◌}
use Rattle.graphql_spec.specs.Fields.{shape_of}
use Rattle.graphql_spec.specs.Introspected.{declared_as, own_name}
use Rattle.graphql_spec.specs.Introspection.{answer_at}
use Rattle.graphql_spec.specs.Resolvers.{answered}
use Rattle.graphql_spec.specs.Schema.{Shape}
use Rattle.graphql_spec.specs.SeenNodes.{map_tree}
use Rattle.graphql_spec.specs.Types.{TypeRef}
use Rattle.juniper_values.specs.ResolvedView.{Answers}
use Rattle.juniper_schema.specs.SchemaView.{view_schema}
use Rattle.juniper_values.specs.ArgumentView.{view_arguments}
use Rattle.juniper_intro.specs.HandleView.{of_handle, view_type_place}
use Rattle.juniper_intro.specs.Handles.{held_answers, reference_at, taken_off, type_held}
use Rattle.juniper_intro.specs.Introspectors.{names_of, number_of, schema_of}
use Rattle.juniper_intro.specs.References.{view_reference}
use Rattle.juniper_intro.proofs.introspector.Introspector.of_type.Goals as goal

pub returns : goal.returns
unfolding held_answers
returns g c =
    let shown = g.S.ScalarValue.shown in
    let s = view_schema shown (schema_of c.args.self.now) in
    let names = names_of c.args.self.now in
    let number = number_of c.args.self.now in
    let place = view_type_place c.args.place in
    let v = view_reference c.without-reference.result in
    let gives : TypeRef → Option Shape → ℕ → Type 0 = λ t o i. Answers shown c.of_site.result (answered (map_tree of_handle (answer_at c.args.field_name.now
    (type_held s names number place c.args.depth t o i (view_arguments shown c.args.arguments.now))))) in
    let at : v ≡ taken_off c.args.depth (reference_at s names place) = c.without-reference.ensures ∙ ap (taken_off c.args.depth) c.reference.ensures in
    subst (λ t. gives t (shape_of (declared_as s t)) (number (unwrap_or (own_name t) []))) at
    (subst (λ o. gives v o (number (unwrap_or (own_name v) []))) c.declared_as-declared.ensures.shape c.of_site.ensures)
