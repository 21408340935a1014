use Rattle.juniper_written.proofs.Deciding.{IsOpen}
use Rattle.juniper_type_rules.specs.UsesView.{definition_at, is_unknown}
use Rattle.juniper_type_rules.proofs.no_undefined_variables.lacks_one.Given as goal

abbrev pub invariant-loop-index : goal.invariant-loop-index
invariant-loop-index g l = IsOpen (λ n. n.now) (is_unknown (definition_at g.S.ScalarValue.shown l.defined)) l.names.items l.index
