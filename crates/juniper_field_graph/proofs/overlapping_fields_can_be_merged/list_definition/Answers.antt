use Rattle.std.proofs.Common.{◌∙◌}
use Rattle.juniper_schema.specs.SchemaView.{view_schema}
use Rattle.juniper_syntax.specs.DocumentView.{view_definition}
use Rattle.juniper_field_graph.specs.Gathering.{list_named}
use Rattle.juniper_field_graph.proofs.ListingSteps.{gathered-listed, listed-own}
use Rattle.juniper_field_graph.proofs.overlapping_fields_can_be_merged.list_definition.Goals as goal

pub returns-in_ok-made-in-Some : goal.returns-in_ok-made-in-Some
returns-in_ok-made-in-Some g c fs ends unknown is finds are ready =
    let shown = g.S.ScalarValue.shown in
    listed-own shown (view_schema shown c.args.known.now.schema.now) fs c.args.gathered.now.graph (list_named c.args.listed.now)
    (view_definition shown c.args.definition.now) c.in-Some.sets.now c.in_ok-made-in-Some.made.items is finds are c.in-Some.ensures
    c.in_ok-made-in-Some.ensures

pub returns-in_ok-made-in-None : goal.returns-in_ok-made-in-None
returns-in_ok-made-in-None g c fs ends unknown is finds are ready =
    let shown = g.S.ScalarValue.shown in
    let new = c.gather_definition.new.gathered in
    gathered-listed shown (view_schema shown c.args.known.now.schema.now) fs c.args.gathered.now.graph new.graph c.clear.new.self.items new.sets.items
    c.in_ok-made-in-None.made.items (view_definition shown c.args.definition.now)
    (c.in_ok-gather_definition-in-None.ensures fs ends unknown is ready) c.clear.ensures.items (c.in_ok-made-in-None.ensures ∙ c.deref.ensures.value)
