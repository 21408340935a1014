use Rattle.std.proofs.Common.{refl, ap, sym, ◌∙◌}
use Rattle.graphql_spec.specs.Rules.{has_root}
use Rattle.graphql_spec.specs.VariableUses.{definition_of}
use Rattle.juniper_syntax.specs.DocumentView.{view_definition, view_fragment, view_operation}
use Rattle.juniper_schema.specs.SchemaView.{view_schema}
use Rattle.juniper_written.proofs.Variables.{variables-seen}
use Rattle.juniper_type_rules.specs.UsesView.{definition_at, view_used_at}
use Rattle.juniper_type_rules.proofs.Ruling.{rootless-misused, misused-is, fragment-misused}
use Rattle.juniper_type_rules.proofs.variables_in_allowed_position.misuses_variable.Goals as goal

pub returns-then-not-has_root : goal.returns-then-not-has_root
unfolding has_root
returns-then-not-has_root g c = λ d parts.
    let shown = g.S.ScalarValue.shown in
    let s = view_schema shown c.args.schema.now in
    let x = view_definition shown c.args.definition.now in
    let o = view_operation shown c.in-Operation.operation in
    rootless-misused s d x o (ap (view_definition shown) c.in-Operation.is) (sym c.has_root.ensures ∙ c.if-not-has_root.true)

pub returns-in_ok-defined-in-Operation : goal.returns-in_ok-defined-in-Operation
unfolding has_root
returns-in_ok-defined-in-Operation g c = λ d parts.
    let shown = g.S.ScalarValue.shown in
    let s = view_schema shown c.args.schema.now in
    let x = view_definition shown c.args.definition.now in
    let o = view_operation shown c.in-Operation.operation in
    let is = ap (view_definition shown) c.in-Operation.is in
    c.misuses_in_parts.ensures ∙ misused-is s d x o is (view_used_at c.args.parts.now.items) (definition_at shown c.in_ok-defined-in-Operation.defined)
    (sym c.has_root.ensures ∙ c.if-not-has_root.false) (parts o is)
    (λ n. c.in_ok-defined-in-Operation.ensures n ∙ ap (λ vs. definition_of vs n)
    (variables-seen shown c.in-Operation.operation.item.variable_definitions o refl))

pub returns-in-Fragment : goal.returns-in-Fragment
returns-in-Fragment g c = λ d parts.
    let shown = g.S.ScalarValue.shown in
    fragment-misused (view_schema shown c.args.schema.now) d (view_definition shown c.args.definition.now) (view_fragment shown c.in-Fragment.field-0)
    (ap (view_definition shown) c.in-Fragment.is)
