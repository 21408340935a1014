use Rattle.std.proofs.Common.{map, refl, ap, sym, ◌∙◌}
use Rattle.graphql_spec.specs.Documents.{VariableDefinition}
use Rattle.graphql_spec.specs.Rules.{repeats_variable}
use Rattle.graphql_spec.specs.Written.{repeats, defined_variables}
use Rattle.juniper_syntax.specs.DocumentView.{view_definition, view_operation}
use Rattle.juniper_written.specs.WrittenView.{view_names}
use Rattle.juniper_written.proofs.Variables.{variables-seen}
use Rattle.juniper_written.proofs.unique_variable_names.repeats_variable.Goals as goal

pub returns-in_ok-found-in-Operation : goal.returns-in_ok-found-in-Operation
unfolding repeats_variable defined_variables
returns-in_ok-found-in-Operation g c =
    let shown = g.S.ScalarValue.shown in
    let o = c.in-Operation.operation in
    c.in_ok-found-in-Operation.ensures
    ∙ (ap (λ l. repeats (view_names l)) c.deref.ensures.value
    ∙ (ap repeats (c.in_ok-names-in-Operation.ensures ∙ ap (map (λ (v : VariableDefinition). v.name.item))
    (variables-seen shown o.item.variable_definitions (view_operation shown o) refl))
    ∙ ap (λ x. repeats_variable (view_definition shown x)) (sym c.in-Operation.is)))

pub returns-in-Fragment : goal.returns-in-Fragment
unfolding repeats_variable defined_variables repeats
returns-in-Fragment g c = ap (λ x. repeats_variable (view_definition g.S.ScalarValue.shown x)) (sym c.in-Fragment.is)
