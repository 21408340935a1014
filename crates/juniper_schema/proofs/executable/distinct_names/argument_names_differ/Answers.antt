use Rattle.std.proofs.Common.{ap, sym, ◌∙◌}
use Rattle.graphql_spec.specs.Executable.{input_names_differ}
use Rattle.juniper_meta.specs.MetaView.{view_field}
use Rattle.juniper_schema.proofs.Tested.{all_done, all_pass, all_stop}
use Rattle.juniper_schema.proofs.executable.distinct_names.argument_names_differ.Goals as goal

pub returns-then-not-input_names_differ : goal.returns-then-not-input_names_differ
returns-then-not-input_names_differ g c =
    let shown = g.S.ScalarValue.shown in let l = c.loop-field in
    all_stop (view_field shown) (λ f. input_names_differ f.arguments) c.args.fields.now l.field-index c.field-item.result c.loop-field-test.true c.field-item.is
    (sym (c.input_names_differ.ensures ∙ ap input_names_differ c.declared_arguments.ensures) ∙ c.if-not-input_names_differ.true) ∙ l.invariant

pub loop-field-preserved : goal.loop-field-preserved
loop-field-preserved g c =
    let shown = g.S.ScalarValue.shown in let l = c.loop-field in
    all_pass (view_field shown) (λ f. input_names_differ f.arguments) c.args.fields.now l.field-index c.field-item.result c.loop-field-test.true c.field-item.is
    (sym (c.input_names_differ.ensures ∙ ap input_names_differ c.declared_arguments.ensures) ∙ c.if-not-input_names_differ.false) ∙ l.invariant

pub returns : goal.returns
returns g c =
    let shown = g.S.ScalarValue.shown in let l = c.loop-field in
    all_done (view_field shown) (λ f. input_names_differ f.arguments) c.args.fields.now l.field-index c.loop-field-test.false ∙ l.invariant
