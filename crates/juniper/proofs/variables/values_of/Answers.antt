use Rattle.std.proofs.Common.{refl, ◌≡◌}
use Rattle.graphql_spec.specs.Shown.{Name}
use Rattle.graphql_spec.specs.Requests.{coerced_variables}
use Rattle.std.proofs.Common.{map}
use Rattle.juniper_syntax.specs.DocumentView.{view_variable}
use Rattle.juniper_syntax.specs.InputView.{view_variables}
use Rattle.juniper_rules.specs.GivenView.{view_given_values}
use Rattle.juniper.proofs.VariableValues.{none-coerced, one-more-coerced, all-coerced}
use Rattle.juniper.proofs.variables.values_of.Goals as goal

pub loop-index-init : goal.loop-index-init
loop-index-init g c =
    let shown = g.S.ScalarValue.shown in
    none-coerced (view_variable shown) c.args.defined.now (view_given_values shown c.args.given.now) (view_variables shown c.in_ok-made.made)
    (λ n. rw c.in_ok-made.ensures.empty refl)

pub loop-index-preserved : goal.loop-index-preserved
loop-index-preserved g c =
    let shown = g.S.ScalarValue.shown in
    one-more-coerced (view_variable shown) c.args.defined.now (view_given_values shown c.args.given.now) (view_variables shown c.loop-index.made)
    (view_variables shown c.put_value.new.made) c.loop-index.index c.index-defined-defined.result
    c.loop-index-test.true c.index-defined-defined.is c.loop-index.invariant c.in_ok-put_value.ensures

pub returns : goal.returns
returns g c =
    let shown = g.S.ScalarValue.shown in
    let all : (n : Name) → view_variables shown c.loop-index.made n
    ≡ coerced_variables (map (view_variable shown) c.args.defined.now) (view_given_values shown c.args.given.now) n =
    all-coerced (view_variable shown) c.args.defined.now (view_given_values shown c.args.given.now)
    (view_variables shown c.loop-index.made) c.loop-index.index c.loop-index-test.false c.loop-index.invariant in
    λ i n. (all n) i
