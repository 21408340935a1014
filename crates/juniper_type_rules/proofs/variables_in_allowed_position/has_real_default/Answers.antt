use Rattle.std.proofs.Common.{not, option_map, ap, sym, ◌∙◌}
use Rattle.graphql_spec.specs.VariableUses.{has_real_default}
use Rattle.juniper_syntax.specs.Positions.{view_spanning}
use Rattle.juniper_syntax.specs.InputView.{view_input}
use Rattle.juniper_type_rules.proofs.Defaults.{real-default-is}
use Rattle.juniper_type_rules.proofs.variables_in_allowed_position.has_real_default.Goals as goal

pub returns-in-Some : goal.returns-in-Some
returns-in-Some g c =
    let shown = g.S.ScalarValue.shown in
    ap not c.is_null.ensures ∙ (real-default-is (view_spanning (view_input shown) c.in-Some.value)
    ∙ ap (λ o. has_real_default (option_map (view_spanning (view_input shown)) o)) (sym c.in-Some.is))

pub returns-in-None : goal.returns-in-None
unfolding has_real_default
returns-in-None g c =
    let shown = g.S.ScalarValue.shown in
    ap (λ o. has_real_default (option_map (view_spanning (view_input shown)) o)) (sym c.in-None.is)
