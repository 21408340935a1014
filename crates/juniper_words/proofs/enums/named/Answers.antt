use Rattle.std.proofs.Common.{Some, cond, sym, ap, ◌∙◌, drop, ◌+◌, bytes_eq}
use Rattle.juniper_words.specs.InputsRead.{named_among}
use Rattle.juniper_words.proofs.EnumNames.{named-next, named-none}
use Rattle.juniper_words.proofs.enums.named.Goals as goal

pub returns-then-eq : goal.returns-then-eq
returns-then-eq g c =
    let name_of = g.E.EnumType.name_of in
    let x = c.value-item.result in
    sym (ap (λ b. cond b (Some x) (named_among name_of (drop (c.loop-value.value-index + 1) c.values-value-items.result.now) c.args.name.now))
    (ap (λ t. bytes_eq t c.args.name.now) (sym c.value_name.ensures) ∙ (sym c.eq.ensures ∙ c.if-eq.true)))
    ∙ (sym (named-next name_of c.args.name.now c.values-value-items.result.now c.loop-value.value-index x c.loop-value-test.true c.value-item.is)
    ∙ c.loop-value.invariant)

pub loop-value-preserved : goal.loop-value-preserved
loop-value-preserved g c =
    let name_of = g.E.EnumType.name_of in
    let x = c.value-item.result in
    sym (ap (λ b. cond b (Some x) (named_among name_of (drop (c.loop-value.value-index + 1) c.values-value-items.result.now) c.args.name.now))
    (ap (λ t. bytes_eq t c.args.name.now) (sym c.value_name.ensures) ∙ (sym c.eq.ensures ∙ c.if-eq.false)))
    ∙ (sym (named-next name_of c.args.name.now c.values-value-items.result.now c.loop-value.value-index x c.loop-value-test.true c.value-item.is)
    ∙ c.loop-value.invariant)

pub returns : goal.returns
returns g c = sym (named-none g.E.EnumType.name_of c.args.name.now c.values-value-items.result.now c.loop-value.value-index c.loop-value-test.false)
    ∙ c.loop-value.invariant
