use Rattle.std.proofs.Common.{option_map, refl}
use Rattle.juniper_syntax.specs.InputView.{view_input}
use Rattle.juniper_rules.specs.GivenView.{value_at}
use Rattle.juniper_rules.proofs.given.Given.new.Goals as goal

pub returns-then-declares_few : goal.returns-then-declares_few
unfolding value_at
returns-then-declares_few g c = refl

pub returns : goal.returns
unfolding value_at
returns g c = λ i name. option_map (view_input g.S.ScalarValue.shown) (c.in_ok-values.ensures name i)
