use Rattle.std.proofs.Common.{option_map, subst, sym, ap, ◌∙◌}
use Rattle.std.specs.Option.{option_and_then}
use Rattle.graphql_spec.specs.Introspected.{possible_types}
use Rattle.graphql_spec.specs.Introspection.{all_of, if_any}
use Rattle.graphql_spec.specs.Resolvers.{answered}
use Rattle.graphql_spec.specs.SeenNodes.{map_tree}
use Rattle.juniper_values.specs.ResolvedView.{Answers}
use Rattle.juniper_schema.specs.SchemaView.{view_schema}
use Rattle.juniper_intro.specs.HandleView.{of_handle}
use Rattle.juniper_intro.specs.Handles.{called}
use Rattle.juniper_intro.specs.Introspectors.{number_of, schema_of}
use Rattle.juniper_intro.specs.Shapes.{shape_in}
use Rattle.juniper_intro.proofs.introspector.Introspector.possible_types.Goals as goal

pub returns-in-None : goal.returns-in-None
unfolding if_any
returns-in-None g c =
    subst (λ o. Answers g.S.ScalarValue.shown c.null.result (answered
    (map_tree of_handle (if_any (all_of (called (number_of c.args.self.now)))
    (option_and_then (λ n. possible_types (view_schema g.S.ScalarValue.shown (schema_of c.args.self.now)) n
    (shape_in g.S.ScalarValue.shown c.args.declared)) o))))) (sym (ap (option_map (λ n. n.now)) c.in-None.is) ∙ c.own_name.ensures) c.null.ensures
