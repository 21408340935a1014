use Rattle.std.proofs.Common.{ap, sym, ◌∙◌}
use Rattle.juniper_schema.specs.SchemaView.{view_schema}
use Rattle.juniper_syntax.specs.DocumentView.{view_fragment, view_selections}
use Rattle.juniper_written.specs.WrittenView.{view_directives_at}
use Rattle.juniper_type_rules.specs.Placing.{joined, parts_in}
use Rattle.juniper_type_rules.specs.PlacedView.{view_parts}
use Rattle.juniper_type_rules.proofs.Placing.{made, fragment-parts, other-parts}
use Rattle.juniper_type_rules.proofs.placed.placed_in_fragment.Goals as goal

pub returns-in_ok-place_selections : goal.returns-in_ok-place_selections
returns-in_ok-place_selections g c =
    let shown = g.S.ScalarValue.shown in
    let s = view_schema shown c.args.schema.now in
    let f = view_fragment shown c.args.fragment.now in
    let none = view_parts shown c.in_ok-placed.placed in
    let ds = view_directives_at shown c.write_directives.new.into.items in
    fragment-parts s none c.in_ok-placed.ensures f ds (view_parts shown c.place_selections.new.placed)
    (sym c.if-is_composite.ensures) c.in_ok-write_directives.ensures
    (c.in_ok-place_selections.ensures ∙ ap (λ l. joined (made none.fields ds) (parts_in s f.condition.item (view_selections shown l))) c.as_slice.ensures.value)

pub returns-else-is_composite : goal.returns-else-is_composite
returns-else-is_composite g c =
    let shown = g.S.ScalarValue.shown in
    let ds = view_directives_at shown c.write_directives.new.into.items in
    other-parts (view_schema shown c.args.schema.now) (view_parts shown c.in_ok-placed.placed) c.in_ok-placed.ensures
    (view_fragment shown c.args.fragment.now) ds
    (sym c.if-is_composite.ensures) c.in_ok-write_directives.ensures
