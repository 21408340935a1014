use Rattle.juniper_schema.specs.SchemaView.{view_schema}
use Rattle.juniper_type_rules.specs.PlacedView.{view_placed}
use Rattle.juniper_explain.specs.Explanations.{view_explanations}
use Rattle.juniper_explain.specs.Nodes.{unknown_field}
use Rattle.juniper_written.proofs.Lists.{IsFlatSoFar}
use Rattle.juniper_explain.proofs.fields.explain_unknown_fields.Given as goal

abbrev pub invariant-loop-placed : goal.invariant-loop-placed
invariant-loop-placed g l =
    let shown = g.S.ScalarValue.shown in
    let s = view_schema shown l.schema in
    IsFlatSoFar (λ x. unknown_field s (view_placed shown x)) l.placed-items (view_explanations l.initial.explanations.items) l.placed-index
    (view_explanations l.explanations.items)
