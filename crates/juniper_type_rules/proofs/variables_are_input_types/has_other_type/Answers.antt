use Rattle.std.proofs.Common.{ap, map, not, sym, ◌∙◌}
use Rattle.graphql_spec.specs.Documents.{VariableDefinition}
use Rattle.graphql_spec.specs.Fields.{is_input, type_named}
use Rattle.graphql_spec.specs.Types.{innermost}
use Rattle.juniper_schema.specs.SchemaView.{view_schema}
use Rattle.juniper_syntax.specs.DocumentView.{view_variable}
use Rattle.juniper_written.proofs.Lists.{seen-twice}
use Rattle.juniper_written.specs.WrittenView.{view_variables}
use Rattle.std.specs.List.{list_any}
use Rattle.juniper_written.proofs.Deciding.{open-first, open-next, one-passes, none-passes}
use Rattle.juniper_type_rules.proofs.variables_are_input_types.has_other_type.Goals as goal

pub loop-variable-init : goal.loop-variable-init
loop-variable-init g c =
    let shown = g.S.ScalarValue.shown in
    open-first (λ v. innermost (view_variable shown v).of_type.item)
    (λ n. not (is_input (type_named (view_schema shown c.args.schema.now) n))) c.deref-variable-items.result.now

pub loop-variable-preserved : goal.loop-variable-preserved
loop-variable-preserved g c =
    let shown = g.S.ScalarValue.shown in
    open-next (λ v. innermost (view_variable shown v).of_type.item)
    (λ n. not (is_input (type_named (view_schema shown c.args.schema.now) n))) c.deref-variable-items.result.now c.loop-variable.variable-index
    c.variable-item.result c.loop-variable-test.true c.variable-item.is
    (ap (λ n. not (is_input (type_named (view_schema shown c.args.schema.now) n))) (sym c.innermost_name-name.ensures) ∙ ap not (sym c.if-not-is_input.ensures))
    c.loop-variable.invariant

pub returns-after-loop-variable : goal.returns-after-loop-variable
returns-after-loop-variable g c =
    let shown = g.S.ScalarValue.shown in
    none-passes (λ v. innermost (view_variable shown v).of_type.item)
    (λ n. not (is_input (type_named (view_schema shown c.args.schema.now) n))) c.deref-variable-items.result.now c.loop-variable.variable-index
    c.loop-variable-test.false c.loop-variable.invariant
    ∙ (ap (list_any (λ n. not (is_input (type_named (view_schema shown c.args.schema.now) n))))
    (seen-twice (view_variable shown) (λ (v : VariableDefinition). innermost v.of_type.item) c.deref-variable-items.result.now)
    ∙ (ap (λ l. list_any (λ n. not (is_input (type_named (view_schema shown c.args.schema.now) n)))
    (map (λ (v : VariableDefinition). innermost v.of_type.item) (map (view_variable shown) l))) c.deref-variable-items.ensures.value
    ∙ ap (λ o. list_any (λ n. not (is_input (type_named (view_schema shown c.args.schema.now) n)))
    (map (λ (v : VariableDefinition). innermost v.of_type.item) (view_variables shown o))) (sym c.in-Some.is)))

pub returns-then-not-is_input : goal.returns-then-not-is_input
returns-then-not-is_input g c =
    let shown = g.S.ScalarValue.shown in
    one-passes (λ v. innermost (view_variable shown v).of_type.item)
    (λ n. not (is_input (type_named (view_schema shown c.args.schema.now) n))) c.deref-variable-items.result.now c.loop-variable.variable-index
    c.variable-item.result c.loop-variable-test.true c.variable-item.is
    (ap (λ n. not (is_input (type_named (view_schema shown c.args.schema.now) n))) (sym c.innermost_name-name.ensures) ∙ ap not (sym c.if-not-is_input.ensures))
    c.loop-variable.invariant
    ∙ (ap (list_any (λ n. not (is_input (type_named (view_schema shown c.args.schema.now) n))))
    (seen-twice (view_variable shown) (λ (v : VariableDefinition). innermost v.of_type.item) c.deref-variable-items.result.now)
    ∙ (ap (λ l. list_any (λ n. not (is_input (type_named (view_schema shown c.args.schema.now) n)))
    (map (λ (v : VariableDefinition). innermost v.of_type.item) (map (view_variable shown) l))) c.deref-variable-items.ensures.value
    ∙ ap (λ o. list_any (λ n. not (is_input (type_named (view_schema shown c.args.schema.now) n)))
    (map (λ (v : VariableDefinition). innermost v.of_type.item) (view_variables shown o))) (sym c.in-Some.is)))

pub returns-in-None : goal.returns-in-None
returns-in-None g c =
    let shown = g.S.ScalarValue.shown in
    ap (λ o. list_any (λ n. not (is_input (type_named (view_schema shown c.args.schema.now) n)))
    (map (λ (v : VariableDefinition). innermost v.of_type.item) (view_variables shown o))) (sym c.in-None.is)
