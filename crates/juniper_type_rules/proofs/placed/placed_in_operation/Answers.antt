use Rattle.std.proofs.Common.{ap, refl, sym, ◌∙◌, ◌++◌, option_map}
use Rattle.std.specs.List.{flat_map}
use Rattle.juniper_schema.specs.SchemaView.{view_schema}
use Rattle.juniper_syntax.specs.DocumentView.{view_operation, view_selections}
use Rattle.juniper_written.specs.WrittenView.{view_directives_at}
use Rattle.juniper_written.proofs.Variables.{variables-seen}
use Rattle.juniper_type_rules.specs.Placing.{joined, parts_in}
use Rattle.juniper_type_rules.specs.PlacedView.{view_parts}
use Rattle.juniper_type_rules.proofs.Placing.{made, operation-parts, rootless-parts}
use Rattle.juniper_type_rules.proofs.placed.placed_in_operation.Goals as goal

pub returns-in_ok-place_selections-in-Some : goal.returns-in_ok-place_selections-in-Some
returns-in_ok-place_selections-in-Some g c =
    let shown = g.S.ScalarValue.shown in
    let s = view_schema shown c.args.schema.now in
    let o = view_operation shown c.args.operation.now in
    let none = view_parts shown c.in_ok-placed.placed in
    let own = view_directives_at shown c.write_directives.new.into.items in
    let ds = view_directives_at shown c.write_variables.new.into.items in
    let root = c.in-Some.root.now in
    operation-parts s none c.in_ok-placed.ensures o root own ds (view_parts shown c.place_selections.new.placed)
    (sym (ap (option_map (λ n. n.now)) c.in-Some.is) ∙ c.root_name.ensures) c.in_ok-write_directives-in-Some.ensures
    (c.in_ok-write_variables-in-Some.ensures ∙ ap (λ vs. own ++ flat_map (λ x. x.directives) vs)
    (variables-seen shown c.args.operation.now.item.variable_definitions o refl))
    (c.in_ok-place_selections-in-Some.ensures ∙ ap (λ l. joined (made none.fields ds) (parts_in s root (view_selections shown l))) c.as_slice.ensures.value)

pub returns-in-None : goal.returns-in-None
returns-in-None g c =
    let shown = g.S.ScalarValue.shown in
    rootless-parts (view_schema shown c.args.schema.now) (view_parts shown c.in_ok-placed.placed) c.in_ok-placed.ensures
    (view_operation shown c.args.operation.now)
    (sym (ap (option_map (λ n. n.now)) c.in-None.is) ∙ c.root_name.ensures)
