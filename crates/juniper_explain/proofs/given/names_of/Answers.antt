use Rattle.std.proofs.Common.{[], ap, map, string_bytes, ◌++◌, ◌∷◌, ◌∙◌}
use Rattle.juniper_meta.specs.MetaView.{view_argument}
use Rattle.juniper_syntax.proofs.Lists.{seen-push}
use Rattle.juniper_written.specs.WrittenView.{view_names}
use Rattle.juniper_written.proofs.Lists.{seen-all, seen-next, seen-twice}
use Rattle.juniper_explain.proofs.given.names_of.Goals as goal

pub loop-argument-init : goal.loop-argument-init
loop-argument-init g c = ap (λ ns. view_names ns ++ map (λ x. string_bytes x.name) c.args.declared.now) c.in_ok-names.ensures.items

pub loop-argument-preserved : goal.loop-argument-preserved
loop-argument-preserved g c =
    seen-next (λ x. string_bytes x.name) c.args.declared.now [] c.loop-argument.argument-index c.argument-item.result (view_names c.loop-argument.names.items)
    _
    c.loop-argument-test.true c.argument-item.is c.loop-argument.invariant
    (seen-push (λ n. n.now) c.loop-argument.names.items c.push.new.self.items c.as_str.result c.in_ok-push.ensures.items
    ∙ ap (λ n. view_names c.loop-argument.names.items ++ n ∷ []) c.as_str.ensures.value)

pub returns : goal.returns
returns g c =
    let shown = g.S.ScalarValue.shown in
    seen-all (λ x. string_bytes x.name) c.args.declared.now [] c.loop-argument.argument-index (view_names c.loop-argument.names.items)
    c.loop-argument-test.false
    c.loop-argument.invariant
    ∙ seen-twice (view_argument shown) (λ d. d.name) c.args.declared.now
