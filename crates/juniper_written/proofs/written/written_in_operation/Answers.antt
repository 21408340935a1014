use Rattle.std.proofs.Common.{ap, refl, ◌∙◌, ◌++◌}
use Rattle.std.specs.List.{flat_map}
use Rattle.juniper_syntax.specs.DocumentView.{view_operation, view_selections}
use Rattle.juniper_written.specs.Parts.{joined, parts_in}
use Rattle.juniper_written.specs.WrittenView.{view_directives_at, view_written}
use Rattle.juniper_written.proofs.Joining.{made, operation-parts}
use Rattle.juniper_written.proofs.Variables.{variables-seen}
use Rattle.juniper_written.proofs.written.written_in_operation.Goals as goal

pub returns : goal.returns
returns g c =
    let shown = g.S.ScalarValue.shown in
    let none = view_written shown c.in_ok-written.written in
    let ds = view_directives_at shown c.write_variables.new.into.items in
    operation-parts (view_operation shown c.args.operation.now) none (view_written shown c.write_selections.new.written)
    (view_directives_at shown c.write_directives.new.into.items) ds
    c.in_ok-written.ensures c.in_ok-write_directives.ensures (c.in_ok-write_variables.ensures
    ∙ ap (λ vs. view_directives_at shown c.write_directives.new.into.items ++ flat_map (λ x. x.directives) vs)
    (variables-seen shown c.args.operation.now.item.variable_definitions (view_operation shown c.args.operation.now) refl))
    (c.in_ok-write_selections.ensures ∙ ap (λ l. joined (made none.fields none.spreads none.conditions ds) (parts_in (view_selections shown l)))
    c.as_slice.ensures.value)
