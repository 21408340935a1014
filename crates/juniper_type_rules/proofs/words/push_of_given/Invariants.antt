use Rattle.std.proofs.Common.{map}
use Rattle.juniper_type_rules.specs.Variables.{words_given}
use Rattle.juniper_syntax.specs.DocumentView.{view_argument, view_word}
use Rattle.juniper_written.proofs.Lists.{IsFlatSoFar}
use Rattle.juniper_type_rules.proofs.words.push_of_given.Given as goal

abbrev pub invariant-loop-argument : goal.invariant-loop-argument
invariant-loop-argument g l =
    let shown = g.S.ScalarValue.shown in
    IsFlatSoFar (λ a. words_given (view_argument shown a)) l.argument-items (map view_word l.initial.words.items) l.argument-index
    (map view_word l.words.items)
