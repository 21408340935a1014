use Rattle.std.proofs.Common.{List, ap, ap₂, ◌∙◌, ◌++◌}
use Rattle.std.specs.List.{flat_map}
use Rattle.std.proofs.lemmas.List.{append_assoc}
use Rattle.std.proofs.lemmas.Result.{on_ok_weaker}
use Rattle.graphql_spec.specs.Documents.{Argument, VariableDefinition}
use Rattle.graphql_spec.specs.Written.{argument_lists, defined_variables}
use Rattle.juniper_rules.specs.Listing.{definition_of}
use Rattle.juniper_rules.proofs.Listing.{arguments-are}
use Rattle.juniper_explain.specs.Explanations.{Explanation, view_explanations}
use Rattle.juniper_explain.specs.Nodes.{repeated_arguments, repeated_in, repeated_in_default, repeated_input_fields, repeated_of, repeated_variables}
use Rattle.juniper_explain.specs.Nodes.{repeated_within}
use Rattle.juniper_explain.proofs.Joined.{three-added}
use Rattle.juniper_explain.proofs.names.explain_repeats.Goals as goal

pub returns : goal.returns
unfolding repeated_arguments repeated_input_fields repeated_variables
returns g c =
    let shown = g.S.ScalarValue.shown in
    let x = definition_of shown c.args.listed.now in
    let old = view_explanations c.args.explanations.now.items in
    let in_default : VariableDefinition → List Explanation = λ v. repeated_in_default v.default in
    let in_argument : Argument → List Explanation = λ a. repeated_within a.value.item in
    on_ok_weaker c.explain_in_defaults.result (λ last is.
    let own = arguments-are shown c.args.listed.now is in
    last ∙ (ap₂ (λ l vs. l ++ flat_map in_default vs) (three-added _ _ _ _ _ _ _ _ _ _ c.in_ok-explain_repeated_variables.ensures
    c.in_ok-explain_repeated_arguments.ensures c.in_ok-explain_in_arguments.ensures
    (ap repeated_of c.variables_of-variables.ensures)
    (ap (flat_map repeated_in) own)
    (ap (flat_map (flat_map in_argument)) own)) c.variables_of-variables.ensures
    ∙ append_assoc ((old ++ repeated_variables x) ++ repeated_arguments x) (flat_map (flat_map in_argument) (argument_lists x))
    (flat_map in_default (defined_variables x)))) c.explain_in_defaults.ensures
