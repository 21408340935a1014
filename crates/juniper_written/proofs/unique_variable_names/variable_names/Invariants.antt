use Rattle.std.proofs.Common.{[]}
use Rattle.juniper_syntax.specs.DocumentView.{view_variable}
use Rattle.juniper_written.specs.WrittenView.{view_names}
use Rattle.juniper_written.proofs.Lists.{IsSeenSoFar}
use Rattle.juniper_written.proofs.unique_variable_names.variable_names.Given as goal

abbrev pub invariant-loop-variable : goal.invariant-loop-variable
invariant-loop-variable g l =
    IsSeenSoFar (λ v. (view_variable g.S.ScalarValue.shown v).name.item) l.variable-items [] l.variable-index (view_names l.names.items)
