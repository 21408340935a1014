use Rattle.juniper_schema.specs.SchemaView.{view_schema}
use Rattle.std.specs.List.{flat_map}
use Rattle.graphql_spec.specs.Fields.{declaration_in}
use Rattle.juniper_explain.specs.SitesView.{view_site}
use Rattle.juniper_explain.specs.Explanations.{view_explanations}
use Rattle.juniper_explain.specs.Nodes.{wrong_argument}
use Rattle.juniper_written.proofs.Lists.{IsFlatSoFar}
use Rattle.juniper_explain.proofs.given.explain_wrong_arguments.Given as goal

abbrev pub invariant-loop-site : goal.invariant-loop-site
invariant-loop-site g l =
    let shown = g.S.ScalarValue.shown in
    let s = view_schema shown l.schema in
    IsFlatSoFar (λ x. flat_map (λ a. wrong_argument s (view_site shown x) a (declaration_in (view_site shown x).declared a.name.item))
    (view_site shown x).given) l.sites (view_explanations l.initial.explanations.items) l.site-index (view_explanations l.explanations.items)
