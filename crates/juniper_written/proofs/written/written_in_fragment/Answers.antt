use Rattle.std.proofs.Common.{ap, ◌∙◌}
use Rattle.juniper_syntax.specs.DocumentView.{view_fragment, view_selections}
use Rattle.juniper_syntax.proofs.Lists.{seen-push}
use Rattle.juniper_written.specs.Parts.{joined, parts_in}
use Rattle.juniper_written.specs.WrittenView.{view_directives_at, view_names, view_written}
use Rattle.juniper_written.proofs.Joining.{made, fragment-parts}
use Rattle.juniper_written.proofs.written.written_in_fragment.Goals as goal

pub returns : goal.returns
returns g c =
    let shown = g.S.ScalarValue.shown in
    let none = view_written shown c.in_ok-written.written in
    let ns = view_names c.push.new.self.items in
    let ds = view_directives_at shown c.write_directives.new.into.items in
    fragment-parts (view_fragment shown c.args.fragment.now) none (view_written shown c.write_selections.new.written) ns ds
    c.in_ok-written.ensures (seen-push (λ n. n.now) c.in_ok-written.written.conditions.items c.push.new.self.items
    c.args.fragment.now.item.type_condition.item c.in_ok-push.ensures.items) c.in_ok-write_directives.ensures
    (c.in_ok-write_selections.ensures ∙ ap (λ l. joined (made none.fields none.spreads ns ds) (parts_in (view_selections shown l))) c.as_slice.ensures.value)
