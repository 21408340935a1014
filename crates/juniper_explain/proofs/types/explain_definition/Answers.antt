use Rattle.std.proofs.Common.{[], ap, ◌∙◌, ◌++◌, ◌∷◌}
use Rattle.std.specs.List.{flat_map}
use Rattle.std.proofs.lemmas.Result.{on_ok_weaker}
use Rattle.graphql_spec.specs.Placed.{placed_in}
use Rattle.graphql_spec.specs.Written.{defined_variables}
use Rattle.juniper_rules.specs.Listing.{definition_of}
use Rattle.juniper_rules.proofs.Listing.{placed-is}
use Rattle.juniper_type_rules.specs.Placing.{parts_of}
use Rattle.juniper_schema.specs.SchemaView.{view_schema}
use Rattle.juniper_explain.specs.Explanations.{view_explanations}
use Rattle.juniper_explain.specs.Nodes.{missing_arguments, other_condition, other_variable, type_findings, unknown_arguments, unknown_field, wrong_arguments}
use Rattle.juniper_explain.specs.Nodes.{wrong_default, wrong_set}
use Rattle.juniper_explain.specs.Sites.{sites}
use Rattle.juniper_explain.specs.Words.{condition_words}
use Rattle.juniper_explain.proofs.Joined.{all-from-left}
use Rattle.juniper_explain.proofs.types.explain_definition.Goals as goal

pub returns : goal.returns
unfolding parts_of type_findings
returns g c =
    let shown = g.S.ScalarValue.shown in
    let s = view_schema shown c.args.schema.now in
    let x = definition_of shown c.args.on_types.now.listed.now in
    let old = view_explanations c.args.explanations.now.items in
    on_ok_weaker c.explain_defaults.result (λ last ds is.
    let placed = placed-is shown s c.args.on_types.now is in
    last ∙ (ap (λ vs. view_explanations c.explain_arguments.new.explanations.items ++ flat_map (λ v. wrong_default s v v.default) vs) c.variables_of.ensures
    ∙ (ap (λ l. l ++ flat_map (λ v. wrong_default s v v.default) (defined_variables x)) (c.in_ok-explain_arguments.ensures x placed
    ∙ ap (λ l. ((l ++ unknown_arguments (sites s x)) ++ missing_arguments (sites s x)) ++ wrong_arguments s (sites s x)) (c.in_ok-explain_sets.ensures
    ∙ (ap (λ p. view_explanations c.explain_unknown_fields.new.explanations.items ++ flat_map (λ q. wrong_set s q q.declared) p.fields) placed
    ∙ ap (λ l. l ++ flat_map (λ q. wrong_set s q q.declared) (placed_in s x)) (c.in_ok-explain_unknown_fields.ensures
    ∙ (ap (λ p. view_explanations c.explain_references.new.explanations.items ++ flat_map (unknown_field s) p.fields) placed
    ∙ ap (λ l. l ++ flat_map (unknown_field s) (placed_in s x)) c.in_ok-explain_references.ensures)))))
    ∙ all-from-left old (flat_map (other_condition s) (condition_words x) ∷ flat_map (other_variable s) (defined_variables x)
    ∷ flat_map (unknown_field s) (placed_in s x) ∷ flat_map (λ q. wrong_set s q q.declared) (placed_in s x) ∷ unknown_arguments (sites s x)
    ∷ missing_arguments (sites s x) ∷ wrong_arguments s (sites s x) ∷ flat_map (λ v. wrong_default s v v.default) (defined_variables x) ∷ []))))
    c.explain_defaults.ensures
