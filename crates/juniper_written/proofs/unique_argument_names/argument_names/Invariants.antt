use Rattle.std.proofs.Common.{[]}
use Rattle.juniper_syntax.specs.DocumentView.{view_argument}
use Rattle.juniper_written.specs.WrittenView.{view_names}
use Rattle.juniper_written.proofs.Lists.{IsSeenSoFar}
use Rattle.juniper_written.proofs.unique_argument_names.argument_names.Given as goal

abbrev pub invariant-loop-argument : goal.invariant-loop-argument
invariant-loop-argument g l =
    IsSeenSoFar (λ a. (view_argument g.S.ScalarValue.shown a).name.item) l.argument-items [] l.argument-index (view_names l.names.items)
