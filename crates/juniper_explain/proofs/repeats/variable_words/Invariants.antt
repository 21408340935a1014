use Rattle.std.proofs.Common.{[]}
use Rattle.juniper_syntax.specs.DocumentView.{view_variable}
use Rattle.juniper_written.proofs.Lists.{IsSeenSoFar}
use Rattle.juniper_explain.specs.Words.{view_words}
use Rattle.juniper_explain.proofs.repeats.variable_words.Given as goal

abbrev pub invariant-loop-variable : goal.invariant-loop-variable
invariant-loop-variable g l =
    IsSeenSoFar (λ v. (view_variable g.S.ScalarValue.shown v).name) l.variables [] l.variable-index (view_words l.words.items)
