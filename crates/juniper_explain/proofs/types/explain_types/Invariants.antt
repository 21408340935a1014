use Rattle.graphql_spec.specs.Documents.{Document}
use Rattle.juniper_schema.specs.SchemaView.{view_schema}
use Rattle.juniper_rules.specs.Listing.{AreListedOnTypes, definition_of}
use Rattle.juniper_explain.specs.Explanations.{view_explanations}
use Rattle.juniper_explain.specs.Nodes.{type_findings}
use Rattle.juniper_explain.proofs.Judging.{IsToldBefore}
use Rattle.juniper_explain.proofs.types.explain_types.Given as goal

-- what is explained, and then what the definitions that are left show
abbrev pub invariant-loop-one : goal.invariant-loop-one
invariant-loop-one g l =
    let shown = g.S.ScalarValue.shown in
    let s = view_schema shown l.schema in
    (d : Document) → AreListedOnTypes shown s l.listed d → IsToldBefore (λ x. definition_of shown x.listed.now)
    (type_findings s) l.listed l.one-index (view_explanations l.explanations.items)
