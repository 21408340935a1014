use Rattle.juniper_schema.specs.SchemaView.{view_schema}
use Rattle.graphql_spec.specs.Fields.{declaration_in}
use Rattle.juniper_syntax.specs.DocumentView.{view_argument}
use Rattle.juniper_explain.specs.SitesView.{view_site}
use Rattle.juniper_explain.specs.Explanations.{view_explanations}
use Rattle.juniper_explain.specs.Nodes.{wrong_argument}
use Rattle.juniper_written.proofs.Lists.{IsFlatSoFar}
use Rattle.juniper_explain.proofs.given.explain_wrong_at.Given as goal

abbrev pub invariant-loop-argument : goal.invariant-loop-argument
invariant-loop-argument g l =
    let shown = g.S.ScalarValue.shown in
    let s = view_schema shown l.schema in
    IsFlatSoFar (λ x. wrong_argument s (view_site shown l.site) (view_argument shown x) (declaration_in (view_site shown l.site).declared
    (view_argument shown x).name.item)) l.argument-items (view_explanations l.initial.explanations.items) l.argument-index
    (view_explanations l.explanations.items)
