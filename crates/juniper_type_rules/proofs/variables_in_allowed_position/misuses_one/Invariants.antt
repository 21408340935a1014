use Rattle.juniper_written.proofs.Deciding.{IsOpen}
use Rattle.juniper_type_rules.specs.UsesView.{definition_at, is_misused, view_use}
use Rattle.juniper_type_rules.proofs.variables_in_allowed_position.misuses_one.Given as goal

abbrev pub invariant-loop-used : goal.invariant-loop-used
invariant-loop-used g l = IsOpen view_use (is_misused (definition_at g.S.ScalarValue.shown l.defined)) l.uses l.used-index
