use Rattle.std.proofs.Common.{[], ap, map, string_bytes, ◌++◌, ◌∷◌, ◌∙◌}
use Rattle.juniper_meta.specs.MetaView.{view_field}
use Rattle.juniper_syntax.proofs.Lists.{seen-push}
use Rattle.juniper_written.specs.WrittenView.{view_names}
use Rattle.juniper_written.proofs.Lists.{seen-all, seen-next, seen-twice}
use Rattle.juniper_explain.proofs.fields.names_of.Goals as goal

pub loop-field-init : goal.loop-field-init
loop-field-init g c = ap (λ ns. view_names ns ++ map (λ x. string_bytes x.name) c.args.fields.now) c.in_ok-names.ensures.items

pub loop-field-preserved : goal.loop-field-preserved
loop-field-preserved g c =
    seen-next (λ x. string_bytes x.name) c.args.fields.now [] c.loop-field.field-index c.field-item.result (view_names c.loop-field.names.items) _
    c.loop-field-test.true c.field-item.is c.loop-field.invariant
    (seen-push (λ n. n.now) c.loop-field.names.items c.push.new.self.items c.as_str.result c.in_ok-push.ensures.items
    ∙ ap (λ n. view_names c.loop-field.names.items ++ n ∷ []) c.as_str.ensures.value)

pub returns : goal.returns
returns g c =
    seen-all (λ x. string_bytes x.name) c.args.fields.now [] c.loop-field.field-index (view_names c.loop-field.names.items) c.loop-field-test.false
    c.loop-field.invariant
    ∙ seen-twice (view_field g.S.ScalarValue.shown) (λ d. d.name) c.args.fields.now
