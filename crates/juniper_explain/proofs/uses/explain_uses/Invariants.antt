use Rattle.std.proofs.Common.{◌≡◌, map}
use Rattle.graphql_spec.specs.Documents.{Document}
use Rattle.graphql_spec.specs.Rules.{cannot_merge}
use Rattle.juniper_explain.specs.Explanations.{view_explanations}
use Rattle.juniper_explain.specs.Nodes.{use_findings}
use Rattle.juniper_schema.specs.SchemaView.{view_schema}
use Rattle.juniper_written.specs.SpreadsView.{AreFragmentsOf}
use Rattle.juniper_rules.specs.Listing.{AreListedOnTypes, definition_of}
use Rattle.juniper_explain.proofs.Judging.{IsToldBefore}
use Rattle.juniper_explain.proofs.uses.explain_uses.Given as goal

-- what is found, and then what the definitions that are left show
abbrev pub invariant-loop-index : goal.invariant-loop-index
invariant-loop-index g l =
    let shown = g.S.ScalarValue.shown in
    let s = view_schema shown l.schema in
    (d : Document) → AreListedOnTypes shown s l.listed d → AreFragmentsOf shown l.fragments d → l.cannot_merge ≡ map (cannot_merge s d) d →
    IsToldBefore (λ x. definition_of shown x.listed.now) (use_findings s l.introspection_disabled d) l.listed l.index (view_explanations l.explanations.items)
