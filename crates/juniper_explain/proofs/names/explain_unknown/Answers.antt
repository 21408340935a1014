use Rattle.std.proofs.Common.{ap, ◌∙◌, ◌++◌}
use Rattle.std.proofs.lemmas.List.{append_assoc}
use Rattle.std.specs.List.{flat_map}
use Rattle.std.proofs.lemmas.Result.{on_ok_weaker}
use Rattle.graphql_spec.specs.Written.{all_directives}
use Rattle.juniper_rules.specs.Listing.{definition_of}
use Rattle.juniper_rules.proofs.Listing.{written-is}
use Rattle.juniper_schema.specs.SchemaView.{view_schema}
use Rattle.juniper_written.specs.Parts.{parts_of}
use Rattle.juniper_explain.specs.Explanations.{view_explanations}
use Rattle.juniper_explain.specs.Nodes.{unknown_directive, unknown_type, unknown_types}
use Rattle.juniper_explain.specs.Words.{type_word, words_of}
use Rattle.juniper_explain.proofs.Joined.{three-added}
use Rattle.juniper_explain.proofs.names.explain_unknown.Goals as goal

pub returns : goal.returns
unfolding unknown_types parts_of words_of
returns g c =
    let shown = g.S.ScalarValue.shown in
    let s = view_schema shown c.args.schema.now in
    let x = definition_of shown c.args.listed.now in
    on_ok_weaker c.explain_unknown_variables.result (λ last is words. three-added (view_explanations c.args.explanations.now.items) _ _ _ _ _ _ _ _ _
    c.in_ok-explain_directives.ensures c.in_ok-explain_unknown_conditions.ensures last
    (ap (λ p. flat_map unknown_directive p.directives) (written-is shown c.args.listed.now is))
    (ap (λ p. flat_map (unknown_type s) p.conditions) words)
    (ap (λ vs. flat_map (λ v. unknown_type s (type_word v)) vs) c.variables_of-variables.ensures)
    ∙ append_assoc (view_explanations c.args.explanations.now.items ++ flat_map unknown_directive (all_directives x)) _ _)
    c.explain_unknown_variables.ensures
