use Rattle.std.proofs.Common.{option_map, sym, ap, ◌∙◌}
use Rattle.juniper_schema.specs.SchemaView.{view_schema}
use Rattle.juniper_syntax.specs.DocumentView.{view_definition, view_fragment, view_operation, view_selections}
use Rattle.juniper_field_graph.specs.Gathering.{set_named}
use Rattle.juniper_field_graph.proofs.ListingSteps.{fragment-as, operation-as, rootless-as}
use Rattle.juniper_field_graph.proofs.overlapping_fields_can_be_merged.gather_definition.Goals as goal

pub returns-in_ok-gather_set-in-Some : goal.returns-in_ok-gather_set-in-Some
returns-in_ok-gather_set-in-Some g c fs ends unknown is ready =
    let shown = g.S.ScalarValue.shown in
    let new = c.gather_set.new.gathered in
    operation-as shown (view_schema shown c.args.known.now.schema.now) fs c.args.gathered.now.graph new.graph
    (set_named c.args.known.now.fragments.now) c.args.gathered.now.sets.items new.sets.items (view_definition shown c.args.definition.now)
    (view_operation shown c.in-Operation.operation) c.in-Some.root.now
    (view_selections shown c.as_slice-selections.result.now) c.in_ok-gather_set-in-Some.field-0
    (ap (view_definition shown) c.in-Operation.is) (sym (ap (view_selections shown) c.as_slice-selections.ensures.value))
    (sym (ap (option_map (λ n. n.now)) c.in-Some.is) ∙ c.root_name.ensures) ready
    (λ r. c.in_ok-gather_set-in-Some.ensures fs ends unknown is r)

pub returns-in-None : goal.returns-in-None
returns-in-None g c fs ends unknown is ready =
    let shown = g.S.ScalarValue.shown in
    rootless-as shown (view_schema shown c.args.known.now.schema.now) fs c.args.gathered.now.graph c.args.gathered.now.sets.items
    (view_definition shown c.args.definition.now) (view_operation shown c.in-Operation.operation)
    (ap (view_definition shown) c.in-Operation.is) (sym (ap (option_map (λ n. n.now)) c.in-None.is) ∙ c.root_name.ensures) is

pub returns-in_ok-gather_set-in-Fragment : goal.returns-in_ok-gather_set-in-Fragment
returns-in_ok-gather_set-in-Fragment g c fs ends unknown is ready =
    let shown = g.S.ScalarValue.shown in
    let new = c.gather_set-in-Fragment.new.gathered in
    fragment-as shown (view_schema shown c.args.known.now.schema.now) fs c.args.gathered.now.graph new.graph
    (set_named c.args.known.now.fragments.now) c.args.gathered.now.sets.items new.sets.items (view_definition shown c.args.definition.now)
    (view_fragment shown c.in-Fragment.fragment) (view_selections shown c.as_slice-selections-in-Fragment.result.now) c.in_ok-gather_set-in-Fragment.field-0
    (ap (view_definition shown) c.in-Fragment.is) (sym (ap (view_selections shown) c.as_slice-selections-in-Fragment.ensures.value)) ready
    (λ r. c.in_ok-gather_set-in-Fragment.ensures fs ends unknown is r)
