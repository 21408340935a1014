use Rattle.std.proofs.Common.{option_map, ap, sym, ◌∙◌}
use Rattle.juniper_syntax.specs.Positions.{view_spanning}
use Rattle.juniper_syntax.specs.InputView.{view_input}
use Rattle.juniper_written.specs.FieldNames.{value_repeats_or}
use Rattle.juniper_written.proofs.unique_input_field_names.default_repeats.Goals as goal

pub returns-in_ok-found-in-Some : goal.returns-in_ok-found-in-Some
unfolding value_repeats_or
returns-in_ok-found-in-Some g c =
    c.in_ok-found-in-Some.ensures ∙ ap (λ o. value_repeats_or (option_map (view_spanning (view_input g.S.ScalarValue.shown)) o)) (sym c.in-Some.is)

pub returns-in-None : goal.returns-in-None
unfolding value_repeats_or
returns-in-None g c = ap (λ o. value_repeats_or (option_map (view_spanning (view_input g.S.ScalarValue.shown)) o)) (sym c.in-None.is)
