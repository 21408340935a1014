use Rattle.std.proofs.Common.{map}
use Rattle.juniper_schema.specs.SchemaView.{view_schema}
use Rattle.juniper_syntax.specs.DocumentView.{view_variable}
use Rattle.juniper_written.proofs.Lists.{IsFlatSoFar}
use Rattle.juniper_explain.specs.Explanations.{view_explanations}
use Rattle.juniper_explain.specs.Nodes.{misused_by}
use Rattle.juniper_explain.proofs.PartWords.{at_places}
use Rattle.juniper_explain.proofs.misused.explain_parts.Given as goal

abbrev pub invariant-loop-index : goal.invariant-loop-index
invariant-loop-index g l =
    let shown = g.S.ScalarValue.shown in
    IsFlatSoFar (at_places shown (view_schema shown l.schema) (misused_by (map (view_variable shown) l.variables))) l.parts.items
    (view_explanations l.initial.explanations.items) l.index (view_explanations l.explanations.items)
