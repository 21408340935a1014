use Rattle.std.proofs.Common.{Some, sym, ap, ◌∙◌}
use Rattle.juniper_conversions.proofs.convert.StringFromInputValue.from_input_value.Goals as goal

pub returns-in_ok-from_str-in-Some : goal.returns-in_ok-from_str-in-Some
returns-in_ok-from_str-in-Some g c = sym c.in-Some.ensures ∙ ap Some (sym c.in_ok-from_str-in-Some.ensures.ok)
