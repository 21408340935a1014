use Rattle.std.proofs.Common.{◌≡◌, append-nil, refl, ap, ap₂, sym, ◌∙◌, ◌++◌}
use Rattle.std.proofs.lemmas.Result.{on_ok_weaker}
use Rattle.std.specs.List.{flat_map}
use Rattle.graphql_spec.specs.Documents as documents
use Rattle.graphql_spec.specs.Documents.{variables_of}
use Rattle.graphql_spec.specs.VariableUses.{parts}
use Rattle.juniper_rules.specs.Listing.{definition_of}
use Rattle.juniper_schema.specs.SchemaView.{view_schema}
use Rattle.juniper_syntax.specs.DocumentView.{view_definition, view_operation}
use Rattle.juniper_written.proofs.Variables.{variables-seen}
use Rattle.juniper_explain.specs.Explanations.{view_explanations}
use Rattle.juniper_explain.specs.Nodes.{misused_by, misused_variables}
use Rattle.juniper_type_rules.specs.Positions.{places_in_call}
use Rattle.juniper_explain.proofs.PartWords.{places-of}
use Rattle.juniper_explain.proofs.misused.explain_all.Goals as goal

pub returns-in_ok-parts-in-Operation : goal.returns-in_ok-parts-in-Operation
unfolding misused_variables
returns-in_ok-parts-in-Operation g c =
    let shown = g.S.ScalarValue.shown in
    let s = view_schema shown c.args.schema.now in
    let o = view_operation shown c.in-Operation.operation in
    let old = view_explanations c.args.explanations.now.items in
    let same : definition_of shown c.args.one.now.listed.now ≡ documents.operation o = ap (view_definition shown) c.in-Operation.is in
    on_ok_weaker c.explain_parts.result (λ added d are fragments is. added
    ∙ (ap₂ (λ vs ls. old ++ flat_map (λ l. flat_map (misused_by vs) (flat_map (places_in_call s) l.calls)) ls)
    (c.listed-variables.ensures ∙ variables-seen shown c.in-Operation.operation.item.variable_definitions o refl)
    (c.in_ok-parts-in-Operation.ensures s d o are fragments is same)
    ∙ (ap (λ l. old ++ l) (places-of (misused_by (variables_of o)) s (parts d o))
    ∙ ap (λ x. old ++ misused_variables s d x) (sym same)))) c.explain_parts.ensures

pub returns-in-Fragment : goal.returns-in-Fragment
unfolding misused_variables
returns-in-Fragment g c = λ d are fragments is.
    let shown = g.S.ScalarValue.shown in
    let s = view_schema shown c.args.schema.now in
    let old = view_explanations c.args.explanations.now.items in
    sym (append-nil old) ∙ ap (λ x. old ++ misused_variables s d (view_definition shown x)) (sym c.in-Fragment.is)
