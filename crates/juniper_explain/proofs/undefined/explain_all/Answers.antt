use Rattle.std.proofs.Common.{◌≡◌, append-nil, ap, sym, ◌∙◌, ◌++◌}
use Rattle.std.proofs.lemmas.Result.{on_ok_weaker}
use Rattle.std.specs.List.{flat_map}
use Rattle.graphql_spec.specs.Documents as documents
use Rattle.graphql_spec.specs.VariableUses.{parts}
use Rattle.juniper_rules.specs.Listing.{definition_of}
use Rattle.juniper_syntax.specs.DocumentView.{view_definition, view_operation}
use Rattle.juniper_explain.specs.Explanations.{view_explanations}
use Rattle.juniper_explain.specs.Nodes.{undefined_name, undefined_variables}
use Rattle.juniper_type_rules.specs.Variables.{words_given}
use Rattle.juniper_explain.proofs.PartWords.{words-of}
use Rattle.juniper_explain.proofs.undefined.explain_all.Goals as goal

pub returns-in_ok-parts-in-Operation : goal.returns-in_ok-parts-in-Operation
unfolding undefined_variables
returns-in_ok-parts-in-Operation g c =
    let shown = g.S.ScalarValue.shown in
    let o = view_operation shown c.in-Operation.operation in
    let old = view_explanations c.args.explanations.now.items in
    let same : definition_of shown c.args.one.now.listed.now ≡ documents.operation o = ap (view_definition shown) c.in-Operation.is in
    on_ok_weaker c.explain_parts.result (λ added s d are fragments is. added
    ∙ (ap (λ ls. old ++ flat_map (λ l. flat_map (undefined_name o) (flat_map (flat_map words_given) l.listing.arguments)) ls)
    (c.in_ok-parts-in-Operation.ensures s d o are fragments is same)
    ∙ (ap (λ l. old ++ l) (words-of (undefined_name o) s (parts d o))
    ∙ ap (λ x. old ++ undefined_variables d x) (sym same)))) c.explain_parts.ensures

pub returns-in-Fragment : goal.returns-in-Fragment
unfolding undefined_variables
returns-in-Fragment g c = λ s d are fragments is.
    let shown = g.S.ScalarValue.shown in
    let old = view_explanations c.args.explanations.now.items in
    sym (append-nil old) ∙ ap (λ x. old ++ undefined_variables d (view_definition shown x)) (sym c.in-Fragment.is)
