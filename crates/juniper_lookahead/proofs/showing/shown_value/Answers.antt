use Rattle.std.proofs.Common.{string_bytes, sym, ap, ◌∙◌}
use Rattle.juniper_syntax.specs.InputView.{view_input}
use Rattle.juniper_syntax.proofs.Inputs.{view-Variable}
use Rattle.juniper_lookahead.specs.ShownValues.{shown_value}
use Rattle.juniper_lookahead.specs.ValueView.{view_lent_variables}
use Rattle.juniper_lookahead.proofs.ShownValues.{given_is_shown, missing_is_shown}
use Rattle.juniper_lookahead.proofs.showing.shown_value.Goals as goal

pub returns-in-Some : goal.returns-in-Some
returns-in-Some g c =
    let shown = g.S.ScalarValue.shown in
    let vars = view_lent_variables shown c.args.variables in
    let name = string_bytes c.in-Variable.name in
    let seen = ap (view_input shown) c.in-Variable.is ∙ view-Variable shown c.in-Variable.name in
    c.unless_variable.ensures ∙ given_is_shown vars name (view_input shown c.in-Some.given.now) (c.in-Some.ensures ∙ ap vars c.as_str.ensures.value)
    ∙ sym (ap (shown_value vars) seen)

pub returns-in-None : goal.returns-in-None
returns-in-None g c =
    let shown = g.S.ScalarValue.shown in
    let vars = view_lent_variables shown c.args.variables in
    let name = string_bytes c.in-Variable.name in
    let seen = ap (view_input shown) c.in-Variable.is ∙ view-Variable shown c.in-Variable.name in
    missing_is_shown vars name (c.in-None.ensures ∙ ap vars c.as_str.ensures.value) ∙ sym (ap (shown_value vars) seen)
