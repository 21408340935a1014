use Rattle.std.proofs.Common.{sym, ap, ◌∙◌}
use Rattle.graphql_spec.specs.Inputs.{list, object}
use Rattle.juniper_syntax.specs.InputView.{view_input}
use Rattle.juniper_syntax.proofs.Inputs.{view-List, view-Object}
use Rattle.juniper_lookahead.specs.ShownValues.{shown_unless_variable, listed, fields_listed}
use Rattle.juniper_lookahead.specs.ValueView.{view_lent_variables, items_shown, fields_shown}
use Rattle.juniper_lookahead.proofs.ShownValues.{list_is_shown, object_is_shown}
use Rattle.juniper_lookahead.proofs.showing.unless_variable.Goals as goal

pub returns-in-List : goal.returns-in-List
returns-in-List g c =
    let shown = g.S.ScalarValue.shown in
    let given = c.args.variables in
    let seen = ap (view_input shown) c.in-List.is ∙ view-List shown c.in-List.items in
    ap (λ is. list (listed (items_shown shown given is))) c.as_slice.ensures.value ∙ sym (list_is_shown shown given c.in-List.items.items)
    ∙ sym (ap (shown_unless_variable (view_lent_variables shown given)) seen)

pub returns-in-Object : goal.returns-in-Object
returns-in-Object g c =
    let shown = g.S.ScalarValue.shown in
    let given = c.args.variables in
    let seen = ap (view_input shown) c.in-Object.is ∙ view-Object shown c.in-Object.fields in
    ap (λ fs. object (fields_listed (fields_shown shown given fs))) c.as_slice-in-Object.ensures.value
    ∙ sym (object_is_shown shown given c.in-Object.fields.items)
    ∙ sym (ap (shown_unless_variable (view_lent_variables shown given)) seen)
