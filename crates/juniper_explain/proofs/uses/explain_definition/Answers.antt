use Rattle.std.proofs.Common.{[], ap, ap₂, ◌∙◌, ◌++◌, ◌∷◌}
use Rattle.std.specs.List.{flat_map}
use Rattle.std.proofs.lemmas.Result.{on_ok_weaker}
use Rattle.graphql_spec.specs.Rules as rules
use Rattle.graphql_spec.specs.Written.{heads, selections_of}
use Rattle.juniper_rules.specs.Listing.{definition_of}
use Rattle.juniper_rules.proofs.Listing.{listed-is, written-is}
use Rattle.juniper_schema.specs.SchemaView.{view_schema}
use Rattle.juniper_written.specs.Parts.{parts_of}
use Rattle.juniper_explain.specs.declared.rule.Rule.TheVariants as rule
use Rattle.juniper_explain.specs.Explanations.{view_explanations, whole}
use Rattle.juniper_explain.specs.Nodes.{introspection_field, misused_variables, undefined_variables, use_findings, where_found}
use Rattle.juniper_explain.proofs.Joined.{all-from-left}
use Rattle.juniper_explain.proofs.uses.explain_definition.Goals as goal

pub returns : goal.returns
unfolding use_findings parts_of
returns g c =
    let shown = g.S.ScalarValue.shown in
    let s = view_schema shown c.args.given.now.schema.now in
    let disabled = c.args.given.now.introspection_disabled in
    let x = definition_of shown c.args.one.now.listed.now in
    let old = view_explanations c.args.explanations.now.items in
    let inside = c.in_ok-inside.ensures in
    let fields = flat_map introspection_field (heads (selections_of x)) in
    on_ok_weaker c.explain_introspection.result (λ last d ds uses listed fragments on_types own merging.
    let is = listed-is shown s c.args.one.now on_types in
    last ∙ (ap₂ (λ b fs. view_explanations c.add_whole.new.explanations.items ++ where_found b (flat_map introspection_field fs)) (inside.schema is)
    (ap (λ p. p.fields) (written-is shown c.args.one.now.listed.now is))
    ∙ (ap (λ l. l ++ where_found (rules.looks_at_schema s disabled x) fields) (c.in_ok-add_whole.ensures
    ∙ (ap (λ b. view_explanations c.explain_misused.new.explanations.items ++ whole b rule.OverlappingFieldsCanBeMerged x) merging
    ∙ ap (λ l. l ++ whole (rules.cannot_merge s d x) rule.OverlappingFieldsCanBeMerged x) (c.in_ok-explain_misused.ensures d listed fragments on_types
    ∙ (ap (λ b. view_explanations c.explain_undefined.new.explanations.items ++ where_found b (misused_variables s d x)) (inside.misused d uses is own)
    ∙ ap (λ l. l ++ where_found (rules.misuses_variable s d x) (misused_variables s d x)) (c.in_ok-explain_undefined.ensures s d listed fragments on_types
    ∙ ap (λ b. old ++ where_found b (undefined_variables d x)) (inside.undefined d uses is own))))))
    ∙ all-from-left old (where_found (rules.uses_undefined s d x) (undefined_variables d x) ∷ where_found (rules.misuses_variable s d x)
    (misused_variables s d x)
    ∷ whole (rules.cannot_merge s d x) rule.OverlappingFieldsCanBeMerged x ∷ where_found (rules.looks_at_schema s disabled x) fields ∷ []))))
    c.explain_introspection.ensures
