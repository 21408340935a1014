use Rattle.std.proofs.Common.{arith, option_map, suc, subst, sym, ap, ◌∙◌}
use Rattle.graphql_spec.specs.Introspection.{if_any}
use Rattle.graphql_spec.specs.Resolvers.{answered, node}
use Rattle.graphql_spec.specs.SeenNodes.{map_tree}
use Rattle.juniper_values.specs.ResolvedView.{Answers}
use Rattle.juniper_intro.specs.HandleView.{of_handle, view_type_place}
use Rattle.juniper_intro.specs.Handles.{type_handle}
use Rattle.juniper_intro.specs.References.{view_reference}
use Rattle.juniper_intro.proofs.types.inside.Goals as goal

pub returns-in-None : goal.returns-in-None
unfolding if_any
returns-in-None g c =
    subst (λ o. Answers g.S.ScalarValue.shown c.null.result (answered
    (map_tree of_handle (if_any (λ u. node (type_handle (view_type_place c.args.place) (suc c.args.depth))) o))))
    (sym (ap (option_map view_reference) c.in-None.is) ∙ c.of_type.ensures) c.null.ensures

pub returns-in-Some-checked_add : goal.returns-in-Some-checked_add
unfolding if_any
returns-in-Some-checked_add g c =
    let shown = g.S.ScalarValue.shown in
    subst (λ o. Answers shown c.object.result (answered (map_tree of_handle
    (if_any (λ u. node (type_handle (view_type_place c.args.place) (suc c.args.depth))) o))))
    (sym (ap (option_map view_reference) c.in-Some.is) ∙ c.of_type.ensures)
    (subst (λ k. Answers shown c.object.result (answered (map_tree of_handle (node (type_handle (view_type_place c.args.place) k)))))
    (c.in-Some-checked_add.ensures.1 ∙ omega arith) c.object.ensures)
