use Rattle.juniper_syntax.specs.DocumentView.{view_variable}
use Rattle.juniper_type_rules.specs.UsesView.{definition_at}
use Rattle.juniper_type_rules.proofs.ByName.{IsFirstSoFar}
use Rattle.juniper_type_rules.proofs.defined.variables_by_name.Given as goal

abbrev pub invariant-loop-variable : goal.invariant-loop-variable
invariant-loop-variable g l = IsFirstSoFar (view_variable g.S.ScalarValue.shown) l.variable-items l.variable-index (definition_at g.S.ScalarValue.shown l.first)
