use Rattle.std.proofs.Common.{option_map, ap, sym, ◌∙◌}
use Rattle.juniper_syntax.specs.InputView.{view_input}
use Rattle.juniper_syntax.proofs.Values.{option_map-copied}
use Rattle.juniper_rules.specs.GivenView.{value_at, view_given_values}
use Rattle.juniper_rules.proofs.InOrder.{found}
use Rattle.juniper_rules.proofs.given.Given.get.Goals as goal

pub returns-in-Hashed : goal.returns-in-Hashed
unfolding value_at
returns-in-Hashed g c =
    let shown = g.S.ScalarValue.shown in
    option_map-copied (view_input shown) c.get.result
    ∙ (ap (option_map (view_input shown)) c.get.ensures.value ∙ ap (λ given. view_given_values shown given c.args.name.now) (sym c.in-Hashed.is))

pub returns-in-Some : goal.returns-in-Some
unfolding value_at
returns-in-Some g c =
    let shown = g.S.ScalarValue.shown in
    ap (option_map (λ v. view_input shown v.now.now)) (sym c.in-Some.is)
    ∙ (found (view_input shown) c.args.name.now c.in-Ordered.values c.get-in-Ordered.result c.get-in-Ordered.ensures.value
    ∙ ap (λ given. view_given_values shown given c.args.name.now) (sym c.in-Ordered.is))

pub returns-in-None : goal.returns-in-None
unfolding value_at
returns-in-None g c =
    let shown = g.S.ScalarValue.shown in
    ap (option_map (λ v. view_input shown v.now.now)) (sym c.in-None.is)
    ∙ (found (view_input shown) c.args.name.now c.in-Ordered.values c.get-in-Ordered.result c.get-in-Ordered.ensures.value
    ∙ ap (λ given. view_given_values shown given c.args.name.now) (sym c.in-Ordered.is))
