use Rattle.std.proofs.Common.{[]}
use Rattle.juniper_syntax.specs.DocumentView.{view_argument}
use Rattle.juniper_written.proofs.Lists.{IsSeenSoFar}
use Rattle.juniper_explain.specs.Words.{view_words}
use Rattle.juniper_explain.proofs.repeats.argument_words.Given as goal

abbrev pub invariant-loop-argument : goal.invariant-loop-argument
invariant-loop-argument g l =
    IsSeenSoFar (λ a. (view_argument g.S.ScalarValue.shown a).name) l.argument-items [] l.argument-index (view_words l.words.items)
