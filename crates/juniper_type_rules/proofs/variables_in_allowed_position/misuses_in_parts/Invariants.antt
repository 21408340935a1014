use Rattle.juniper_written.proofs.Deciding.{IsOpen}
use Rattle.juniper_type_rules.specs.UsesView.{definition_at, uses_misused, view_used}
use Rattle.juniper_type_rules.proofs.variables_in_allowed_position.misuses_in_parts.Given as goal

abbrev pub invariant-loop-index : goal.invariant-loop-index
invariant-loop-index g l = IsOpen (λ u. view_used u.now) (uses_misused (definition_at g.S.ScalarValue.shown l.defined)) l.parts.items l.index
