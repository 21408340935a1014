use Rattle.std.proofs.Common.{◌++◌, map}
use Rattle.std.specs.Vec.Iter.{into_iter_items}
use Rattle.juniper_syntax.specs.Positions.{view_position}
use Rattle.juniper_explain.specs.GivenValues.{view_variable_explanation, view_variable_explanations}
use Rattle.juniper_explain.proofs.Moved.{AreMoved}
use Rattle.juniper_explain.proofs.TellingValues.{told_message}
use Rattle.juniper_explain.proofs.variable_values.add_all.Given as goal

-- what is explained goes before what is left
abbrev pub invariant-loop-message : goal.invariant-loop-message
invariant-loop-message l =
    AreMoved (told_message (view_position l.location)) view_variable_explanation
    (view_variable_explanations l.initial.explanations.items ++ map (told_message (view_position l.location)) (into_iter_items l.initial.message-iterator))
    l.explanations.items (into_iter_items l.message-iterator)
