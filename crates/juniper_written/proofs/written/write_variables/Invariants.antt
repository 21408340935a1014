use Rattle.juniper_syntax.specs.DocumentView.{view_variable}
use Rattle.juniper_written.specs.WrittenView.{view_directives_at}
use Rattle.juniper_written.proofs.Lists.{IsFlatSoFar}
use Rattle.juniper_written.proofs.written.write_variables.Given as goal

abbrev pub invariant-loop-variable : goal.invariant-loop-variable
invariant-loop-variable g l =
    let shown = g.S.ScalarValue.shown in
    IsFlatSoFar (λ v. (view_variable shown v).directives) l.variable-items (view_directives_at shown l.initial.into.items) l.variable-index
    (view_directives_at shown l.into.items)
