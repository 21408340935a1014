use Rattle.std.proofs.Common.{ap, ◌∙◌, ◌++◌}
use Rattle.std.specs.List.{flat_map}
use Rattle.std.proofs.lemmas.Result.{on_ok_weaker}
use Rattle.graphql_spec.specs.Placed.{directive_named}
use Rattle.juniper_type_rules.specs.Placing.{parts_of}
use Rattle.juniper_schema.specs.SchemaView.{view_schema}
use Rattle.juniper_explain.specs.Nodes.{missing_arguments, unknown_arguments, wrong_arguments}
use Rattle.juniper_explain.specs.Sites.{directive_site, field_site, sites}
use Rattle.juniper_explain.specs.SitesView.{view_sites}
use Rattle.juniper_explain.proofs.Joined.{three-added}
use Rattle.juniper_explain.proofs.types.explain_arguments.Goals as goal

pub returns : goal.returns
unfolding parts_of sites
returns g c =
    let shown = g.S.ScalarValue.shown in
    let s = view_schema shown c.args.schema.now in
    on_ok_weaker c.explain_wrong_arguments.result (λ last x are.
    let same = c.in_ok-sites.ensures
    ∙ ap (λ p. flat_map (λ q. field_site q q.declared) p.fields ++ flat_map (λ y. directive_site y (directive_named y.name.item)) p.directives) are in
    three-added _ _ _ _ _ _ _ _ _ _ c.in_ok-explain_unknown_arguments.ensures c.in_ok-explain_missing_arguments.ensures last
    (ap unknown_arguments (ap (view_sites shown) c.deref.ensures.value ∙ same))
    (ap missing_arguments (ap (view_sites shown) c.deref-2.ensures.value ∙ same))
    (ap (wrong_arguments s) (ap (view_sites shown) c.deref-3.ensures.value ∙ same))) c.explain_wrong_arguments.ensures
