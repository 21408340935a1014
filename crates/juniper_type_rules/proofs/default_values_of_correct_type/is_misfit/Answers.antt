use Rattle.std.proofs.Common.{ap, sym, ◌∙◌, false, not, option_map}
use Rattle.graphql_spec.specs.Documents.{VariableDefinition}
use Rattle.graphql_spec.specs.Fits.{fits}
use Rattle.juniper_syntax.specs.Positions.{view_spanning}
use Rattle.juniper_schema.specs.SchemaView.{view_schema}
use Rattle.juniper_syntax.specs.DocumentView.{view_variable}
use Rattle.juniper_syntax.specs.InputView.{view_input}
use Rattle.juniper_type_rules.specs.SetTests.{has_misfit}
use Rattle.juniper_type_rules.proofs.default_values_of_correct_type.is_misfit.Goals as goal

pub returns-in_ok-reference-in-Some : goal.returns-in_ok-reference-in-Some
unfolding has_misfit
returns-in_ok-reference-in-Some g c =
    let shown = g.S.ScalarValue.shown in
    let s = view_schema shown c.args.schema.now in
    let v : VariableDefinition = view_variable shown c.args.variable.now in
    ap not (c.fits.ensures ∙ ap (fits s false (view_input shown c.in-Some.value.item)) c.in_ok-reference-in-Some.ensures)
    ∙ ap (λ o. has_misfit s (record v { default = option_map (view_spanning (view_input shown)) o })) (sym c.in-Some.is)

pub returns-in-None : goal.returns-in-None
unfolding has_misfit
returns-in-None g c =
    let shown = g.S.ScalarValue.shown in
    let s = view_schema shown c.args.schema.now in
    let v : VariableDefinition = view_variable shown c.args.variable.now in
    ap (λ o. has_misfit s (record v { default = option_map (view_spanning (view_input shown)) o })) (sym c.in-None.is)
