use Rattle.std.proofs.Common.{[], ap, map, string_bytes, ◌++◌, ◌∷◌, ◌∙◌}
use Rattle.juniper_meta.specs.MetaView.{view_enum_value}
use Rattle.juniper_syntax.proofs.Lists.{seen-push}
use Rattle.juniper_written.specs.WrittenView.{view_names}
use Rattle.juniper_written.proofs.Lists.{seen-all, seen-next, seen-twice}
use Rattle.juniper_explain.proofs.value_parts.names_of_values.Goals as goal

pub loop-value-init : goal.loop-value-init
loop-value-init c = ap (λ ns. view_names ns ++ map (λ x. string_bytes x.name) c.args.values.now) c.in_ok-names.ensures.items

pub loop-value-preserved : goal.loop-value-preserved
loop-value-preserved c =
    seen-next (λ x. string_bytes x.name) c.args.values.now [] c.loop-value.value-index c.value-item.result (view_names c.loop-value.names.items)
    _
    c.loop-value-test.true c.value-item.is c.loop-value.invariant
    (seen-push (λ n. n.now) c.loop-value.names.items c.push.new.self.items c.as_str.result c.in_ok-push.ensures.items
    ∙ ap (λ n. view_names c.loop-value.names.items ++ n ∷ []) c.as_str.ensures.value)

pub returns : goal.returns
returns c =
    seen-all (λ x. string_bytes x.name) c.args.values.now [] c.loop-value.value-index (view_names c.loop-value.names.items)
    c.loop-value-test.false
    c.loop-value.invariant
    ∙ seen-twice view_enum_value (λ d. d.name) c.args.values.now
