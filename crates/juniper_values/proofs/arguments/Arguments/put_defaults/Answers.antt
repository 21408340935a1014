use Rattle.std.proofs.Common.{◌∙◌, [], ◌∷◌, sym, ap, refl, map, take, take_all}
use Rattle.std.proofs.lemmas.List.{take_more, map-append}
use Rattle.graphql_spec.specs.Arguments.{with_defaults, put_default}
use Rattle.graphql_spec.proofs.Given.{defaults-more}
use Rattle.juniper_values.specs.ArgumentView.{view_arguments}
use Rattle.juniper_meta.specs.MetaView.{view_argument}
use Rattle.juniper_values.proofs.arguments.Arguments.put_defaults.Goals as goal

pub loop-argument-preserved : goal.loop-argument-preserved
loop-argument-preserved g c =
    let view = view_argument g.S.ScalarValue.shown in
    let before = take c.loop-argument.argument-index c.args.declared.now in
    let ms = view_arguments g.S.ScalarValue.shown c.args.self.now in
    let d = view c.argument-item.result in
    rw (take_more c.args.declared.now c.loop-argument.argument-index c.argument-item.result c.loop-argument-test.true, ← c.argument-item.is)
    (c.in_ok-put_default.ensures ∙ (ap (put_default d.name d.default) c.loop-argument.invariant
    ∙ (sym (defaults-more (map view before) d ms) ∙ sym (ap (λ ds. with_defaults ds ms) (map-append view before (c.argument-item.result ∷ []))))))

pub returns : goal.returns
returns g c = rw (← take_all c.loop-argument.argument-index c.args.declared.now c.loop-argument-test.false) c.loop-argument.invariant

pub loop-argument-init : goal.loop-argument-init
unfolding with_defaults
loop-argument-init g c = refl
