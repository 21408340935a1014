use Rattle.std.proofs.Common.{subst, sym, ap, ◌∙◌}
use Rattle.graphql_spec.specs.Introspection.{all_of, answer_at}
use Rattle.graphql_spec.specs.Resolvers.{answered}
use Rattle.graphql_spec.specs.SeenNodes.{map_tree}
use Rattle.graphql_spec.specs.TypeList.{type_list}
use Rattle.juniper_values.specs.ResolvedView.{Answers}
use Rattle.juniper_schema.specs.SchemaView.{view_schema}
use Rattle.juniper_intro.specs.HandleView.{of_handle}
use Rattle.juniper_intro.specs.Handles.{called, schema_held}
use Rattle.juniper_intro.specs.Introspectors.{names_of, number_of, schema_of}
use Rattle.juniper_intro.proofs.Looked.{all-keys}
use Rattle.juniper_intro.proofs.introspector.Introspector.of_schema.Goals as goal

pub returns-in-types : goal.returns-in-types
unfolding answer_at schema_held
returns-in-types g c =
    let shown = g.S.ScalarValue.shown in
    let s = view_schema shown (schema_of c.args.self.now) in
    let number = number_of c.args.self.now in
    subst (λ f. Answers shown c.types.result (answered (map_tree of_handle (answer_at f (schema_held s (names_of c.args.self.now) number)))))
    (sym c.in-types.is)
    (subst (λ a. Answers shown c.types.result (answered (map_tree of_handle a)))
    (ap (all_of (called number)) (c.listed.ensures ∙ c.args.self.now.listed) ∙ all-keys (called number) (λ e. e.key) (type_list s)) c.types.ensures)
