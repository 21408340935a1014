use Rattle.std.proofs.Common.{map}
use Rattle.std.specs.Option.{is_none}
use Rattle.graphql_spec.specs.VariableUses.{definition_of}
use Rattle.juniper_syntax.specs.DocumentView.{view_variable, view_word}
use Rattle.juniper_written.proofs.Lists.{IsFlatSoFar}
use Rattle.juniper_explain.specs.Explanations.{named, view_explanations}
use Rattle.juniper_explain.proofs.undefined.explain_words.Given as goal

abbrev pub invariant-loop-index : goal.invariant-loop-index
invariant-loop-index g l =
    let defined = map (view_variable g.S.ScalarValue.shown) l.variables in
    IsFlatSoFar (λ w. named (is_none (definition_of defined (view_word w).item)) l.wording.rule (view_word w) l.wording.before.now l.wording.after.now)
    l.words.items (view_explanations l.initial.explanations.items) l.index (view_explanations l.explanations.items)
