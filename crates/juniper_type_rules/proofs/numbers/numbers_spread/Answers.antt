use Rattle.std.proofs.Common.{ap, ◌∙◌}
use Rattle.std.proofs.lemmas.Result.{IfOk-weaker}
use Rattle.juniper_type_rules.specs.Numbers.{numbers_at}
use Rattle.juniper_type_rules.proofs.Numbering.{none-spread, spread-is}
use Rattle.juniper_type_rules.proofs.numbers.numbers_spread.Goals as goal

pub returns-in-Some : goal.returns-in-Some
returns-in-Some c = IfOk-weaker c.numbers_at.result _ _ (λ r same fs are.
    same ∙ ap (numbers_at c.args.numbers.now) (spread-is c.args.spreads.now fs are c.args.name.now c.get.result c.get.ensures c.in-Some.spread c.in-Some.is))
    c.numbers_at.ensures

pub returns-in-None : goal.returns-in-None
unfolding numbers_at
returns-in-None c = λ fs are.
    c.new.ensures.items ∙ ap (numbers_at c.args.numbers.now) (none-spread c.args.spreads.now fs are c.args.name.now c.get.result c.get.ensures c.in-None.is)
