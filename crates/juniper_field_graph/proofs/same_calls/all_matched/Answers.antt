use Rattle.std.proofs.Common.{refl, ◌∙◌}
use Rattle.juniper_field_graph.specs.NamedValues.{view_named}
use Rattle.juniper_field_graph.proofs.SameItems.{value-found, values-done, values-pass, values-stop}
use Rattle.juniper_field_graph.proofs.same_calls.all_matched.Goals as goal

pub loop-argument-preserved : goal.loop-argument-preserved
loop-argument-preserved g c =
    let shown = g.S.ScalarValue.shown in
    let others = view_named (λ n. n.now) shown c.args.others.now in
    let x = c.argument-item.result in
    values-pass (λ n. n.now) shown c.args.arguments.now others c.loop-argument.argument-index x c.loop-argument-test.true c.argument-item.is
    (value-found (λ n. n.now) shown others x x.0.item.now c.value_at.result refl c.value_at.ensures c.is_matched.result c.is_matched.ensures
    ∙ c.if-not-is_matched.false)
    ∙ c.loop-argument.invariant

pub returns-then-not-is_matched : goal.returns-then-not-is_matched
returns-then-not-is_matched g c =
    let shown = g.S.ScalarValue.shown in
    let others = view_named (λ n. n.now) shown c.args.others.now in
    let x = c.argument-item.result in
    values-stop (λ n. n.now) shown c.args.arguments.now others c.loop-argument.argument-index x c.loop-argument-test.true c.argument-item.is
    (value-found (λ n. n.now) shown others x x.0.item.now c.value_at.result refl c.value_at.ensures c.is_matched.result c.is_matched.ensures
    ∙ c.if-not-is_matched.true)
    ∙ c.loop-argument.invariant

pub returns : goal.returns
returns g c =
    let shown = g.S.ScalarValue.shown in
    values-done (λ n. n.now) shown c.args.arguments.now (view_named (λ n. n.now) shown c.args.others.now) c.loop-argument.argument-index
    c.loop-argument-test.false ∙ c.loop-argument.invariant
