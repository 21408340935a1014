use Rattle.std.proofs.Common.{ap, sym, ◌∙◌}
use Rattle.std.specs.Str.{bytes_eq}
use Rattle.juniper_field_graph.proofs.NamedValues.{value-met, value-missed, value-passed}
use Rattle.juniper_field_graph.proofs.named_values.value_at.Goals as goal

pub loop-value-preserved : goal.loop-value-preserved
loop-value-preserved g c =
    value-passed g.N.AsStr.text g.S.ScalarValue.shown c.args.values.now c.loop-value.value-index c.value-item.result c.args.name.now c.loop-value-test.true
    c.value-item.is
    (ap (bytes_eq c.args.name.now) (sym c.as_str.ensures) ∙ (sym c.eq.ensures ∙ c.if-eq.false))
    ∙ c.loop-value.invariant

pub returns-then-eq : goal.returns-then-eq
returns-then-eq g c =
    value-met g.N.AsStr.text g.S.ScalarValue.shown c.args.values.now c.loop-value.value-index c.value-item.result c.args.name.now c.loop-value-test.true
    c.value-item.is
    (ap (bytes_eq c.args.name.now) (sym c.as_str.ensures) ∙ (sym c.eq.ensures ∙ c.if-eq.true))
    ∙ c.loop-value.invariant

pub returns : goal.returns
returns g c = value-missed g.N.AsStr.text g.S.ScalarValue.shown c.args.values.now c.loop-value.value-index c.args.name.now c.loop-value-test.false
    ∙ c.loop-value.invariant
