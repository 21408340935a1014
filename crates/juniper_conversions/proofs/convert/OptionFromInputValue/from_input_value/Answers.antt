use Rattle.std.proofs.Common.{sym, ◌∙◌}
use Rattle.juniper_conversions.proofs.Nulls.{null_is, not_null}
use Rattle.juniper_conversions.proofs.convert.OptionFromInputValue.from_input_value.Goals as goal

pub returns-then-is_null : goal.returns-then-is_null
returns-then-is_null g c = null_is _ (sym c.is_null.ensures ∙ c.if-is_null.true)

pub returns-in-Ok : goal.returns-in-Ok
returns-in-Ok g c = (not_null _ (sym c.is_null.ensures ∙ c.if-is_null.false), rw c.in-Ok.is at c.in_ok-inner.ensures)
