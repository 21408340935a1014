use Rattle.std.proofs.Common.{Some, None, cond, true, false, refl, sym, ap, ◌∙◌, drop, ◌+◌, bytes_eq, Bool, ◌≡◌}
use Rattle.graphql_spec.specs.Constants.{meaning}
use Rattle.juniper_syntax.specs.InputView.{view_input}
use Rattle.juniper_value_tests.proofs.Found.{found, found-next, found-none}
use Rattle.juniper_value_tests.proofs.cell.field_at.Goals as goal

pub returns-then-eq : goal.returns-then-eq
returns-then-eq g c =
    let shown = g.S.ScalarValue.shown in
    let f = c.loop-key-item.result in
    sym (ap (λ b. cond b (Some (meaning (view_input shown f.1.item))) (found shown c.args.name.now (drop (c.loop-key.key-index + 1) c.args.fields.now)))
    (ap (bytes_eq c.args.name.now) (sym c.as_str.ensures.value) ∙ (sym c.eq.ensures ∙ c.if-eq.true)))
    ∙ (sym (found-next shown c.args.name.now c.args.fields.now c.loop-key.key-index f c.loop-key-test.true c.loop-key-item.is) ∙ c.loop-key.invariant)

pub loop-key-preserved : goal.loop-key-preserved
loop-key-preserved g c =
    let shown = g.S.ScalarValue.shown in
    let f = c.loop-key-item.result in
    sym (ap (λ b. cond b (Some (meaning (view_input shown f.1.item))) (found shown c.args.name.now (drop (c.loop-key.key-index + 1) c.args.fields.now)))
    (ap (bytes_eq c.args.name.now) (sym c.as_str.ensures.value) ∙ (sym c.eq.ensures ∙ c.if-eq.false)))
    ∙ (sym (found-next shown c.args.name.now c.args.fields.now c.loop-key.key-index f c.loop-key-test.true c.loop-key-item.is) ∙ c.loop-key.invariant)

pub returns : goal.returns
returns g c = sym (found-none g.S.ScalarValue.shown c.args.name.now c.args.fields.now c.loop-key.key-index c.loop-key-test.false) ∙ c.loop-key.invariant
