use Rattle.std.proofs.Common.{map}
use Rattle.juniper_syntax.specs.DocumentView.{view_variable}
use Rattle.juniper_written.proofs.Lists.{IsFlatSoFar}
use Rattle.juniper_explain.specs.Explanations.{view_explanations}
use Rattle.juniper_explain.specs.Nodes.{misused_by}
use Rattle.juniper_type_rules.specs.UsesView.{view_place}
use Rattle.juniper_explain.proofs.misused.explain_places.Given as goal

abbrev pub invariant-loop-place : goal.invariant-loop-place
invariant-loop-place g l =
    IsFlatSoFar (λ p. misused_by (map (view_variable g.S.ScalarValue.shown) l.variables) (view_place p)) l.places
    (view_explanations l.initial.explanations.items) l.place-index (view_explanations l.explanations.items)
