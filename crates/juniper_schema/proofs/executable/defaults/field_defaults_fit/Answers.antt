use Rattle.std.proofs.Common.{Bool, List, ap, sym, ◌∙◌}
use Rattle.std.specs.List.{list_all}
use Rattle.graphql_spec.specs.Schema.{InputDeclaration}
use Rattle.graphql_spec.specs.Executable.{default_is_right}
use Rattle.juniper_meta.specs.MetaView.{view_field}
use Rattle.juniper_schema.specs.SchemaView.{view_schema}
use Rattle.juniper_schema.proofs.Tested.{all_done, all_pass, all_stop}
use Rattle.juniper_schema.proofs.executable.defaults.field_defaults_fit.Goals as goal

pub returns-then-not-input_defaults_fit : goal.returns-then-not-input_defaults_fit
returns-then-not-input_defaults_fit g c =
    let shown = g.S.ScalarValue.shown in let l = c.loop-field in
    let fit : List InputDeclaration → Bool = list_all (default_is_right (view_schema shown c.args.schema.now)) in
    all_stop (view_field shown) (λ f. fit f.arguments) c.args.fields.now l.field-index c.field-item.result c.loop-field-test.true c.field-item.is
    (sym (c.input_defaults_fit.ensures ∙ ap fit c.declared_arguments.ensures) ∙ c.if-not-input_defaults_fit.true) ∙ l.invariant

pub loop-field-preserved : goal.loop-field-preserved
loop-field-preserved g c =
    let shown = g.S.ScalarValue.shown in let l = c.loop-field in
    let fit : List InputDeclaration → Bool = list_all (default_is_right (view_schema shown c.args.schema.now)) in
    all_pass (view_field shown) (λ f. fit f.arguments) c.args.fields.now l.field-index c.field-item.result c.loop-field-test.true c.field-item.is
    (sym (c.input_defaults_fit.ensures ∙ ap fit c.declared_arguments.ensures) ∙ c.if-not-input_defaults_fit.false) ∙ l.invariant

pub returns : goal.returns
returns g c =
    let shown = g.S.ScalarValue.shown in let l = c.loop-field in
    let fit : List InputDeclaration → Bool = list_all (default_is_right (view_schema shown c.args.schema.now)) in
    all_done (view_field shown) (λ f. fit f.arguments) c.args.fields.now l.field-index c.loop-field-test.false ∙ l.invariant
