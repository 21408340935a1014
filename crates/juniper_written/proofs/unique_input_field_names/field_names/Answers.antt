use Rattle.std.proofs.Common.{◌++◌, [], ◌∷◌, ap, ◌∙◌}
use Rattle.juniper_syntax.specs.InputView.{view_fields}
use Rattle.juniper_syntax.proofs.Lists.{seen-push}
use Rattle.juniper_written.specs.WrittenView.{view_names}
use Rattle.juniper_written.specs.FieldNames.{names_of}
use Rattle.juniper_written.proofs.FieldRepeats.{names_next, names_done}
use Rattle.juniper_written.proofs.unique_input_field_names.field_names.Goals as goal

pub loop-field-init : goal.loop-field-init
loop-field-init g c = ap (λ l. view_names l ++ names_of (view_fields g.S.ScalarValue.shown c.args.fields.now)) c.new-names.ensures.items

pub loop-field-preserved : goal.loop-field-preserved
loop-field-preserved g c =
    names_next g.S.ScalarValue.shown c.args.fields.now c.loop-field.field-index c.field-item.result (view_names c.loop-field.names.items)
    (view_names c.push.new.self.items)
    c.loop-field-test.true c.field-item.is
    (seen-push (λ n. n.now) c.loop-field.names.items c.push.new.self.items _ c.in_ok-push.ensures.items
    ∙ ap (λ n. view_names c.loop-field.names.items ++ n ∷ []) c.as_str.ensures.value)
    c.loop-field.invariant

pub returns : goal.returns
returns g c = names_done g.S.ScalarValue.shown c.args.fields.now c.loop-field.field-index
    (view_names c.loop-field.names.items) c.loop-field-test.false c.loop-field.invariant
