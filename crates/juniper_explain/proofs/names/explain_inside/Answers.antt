use Rattle.std.proofs.Common.{[], ap, ◌∙◌, ◌++◌, ◌∷◌}
use Rattle.std.specs.List.{flat_map}
use Rattle.std.proofs.lemmas.Result.{on_ok_weaker}
use Rattle.graphql_spec.specs.Written.{all_directives, selections_of}
use Rattle.juniper_rules.specs.Listing.{definition_of}
use Rattle.juniper_rules.proofs.Listing.{written-is}
use Rattle.juniper_schema.specs.SchemaView.{view_schema}
use Rattle.juniper_written.specs.Parts.{parts_of}
use Rattle.juniper_written.specs.WrittenView.{view_names}
use Rattle.juniper_explain.specs.Explanations.{view_explanations}
use Rattle.juniper_explain.specs.Nodes.{inside_findings, own_spread, repeated_arguments, repeated_input_fields, repeated_variables, unknown_directive}
use Rattle.juniper_explain.specs.Nodes.{unknown_spread}
use Rattle.juniper_explain.specs.Nodes.{unknown_types}
use Rattle.juniper_explain.specs.Words.{spread_words, words_of}
use Rattle.juniper_explain.proofs.Joined.{all-from-left}
use Rattle.juniper_explain.proofs.names.explain_inside.Goals as goal

pub returns : goal.returns
unfolding inside_findings parts_of words_of
returns g c =
    let shown = g.S.ScalarValue.shown in
    let s = view_schema shown c.args.schema.now in
    let x = definition_of shown c.args.listed.now in
    let old = view_explanations c.args.explanations.now.items in
    on_ok_weaker c.explain_unknown.result (λ last d are is.
    let written = written-is shown c.args.listed.now is in
    last is c.in_ok-words.ensures
    ∙ (ap (λ l. (l ++ flat_map unknown_directive (all_directives x)) ++ unknown_types s x) (c.in_ok-explain_repeats.ensures is
    ∙ ap (λ l. ((l ++ repeated_variables x) ++ repeated_arguments x) ++ repeated_input_fields x)
    (c.in_ok-explain_own_spread.ensures d are (ap view_names c.deref.ensures.value ∙ ap (λ p. p.spreads) written)
    ∙ ap (λ l. l ++ own_spread d x) (c.in_ok-explain_spreads.ensures d are
    ∙ ap (λ w. old ++ flat_map (unknown_spread d) w.spreads) c.in_ok-words.ensures)))
    ∙ all-from-left old (flat_map (unknown_spread d) (spread_words (selections_of x)) ∷ own_spread d x ∷ repeated_variables x ∷ repeated_arguments x
    ∷ repeated_input_fields x ∷ flat_map unknown_directive (all_directives x) ∷ unknown_types s x ∷ []))) c.explain_unknown.ensures
