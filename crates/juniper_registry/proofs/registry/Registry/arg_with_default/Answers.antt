use Rattle.juniper_meta.specs.MetaView.{view_argument}
use Rattle.juniper_syntax.specs.InputView.{view_input}
use Rattle.juniper_registry.proofs.Defaults.{defaulted, exactly}
use Rattle.juniper_registry.proofs.registry.Registry.arg_with_default.Goals as goal

pub returns-clause-made : goal.returns-clause-made
returns-clause-made g c =
    let shown = g.S.ScalarValue.shown in
    defaulted (view_argument shown c.default_value.result) (view_argument shown c.in_ok-argument.argument) c.args.name.now
    (g.T.GraphQLReference.reference c.args.info.now) (view_input shown c.in_ok-own_value.own_value)
    (g.T.ToInputValue.input c.args.value.now) c.default_value.ensures c.in_ok-argument.ensures.made c.in_ok-own_value.ensures

pub returns-clause-exact : goal.returns-clause-exact
returns-clause-exact g c =
    let shown = g.S.ScalarValue.shown in
    exactly (view_argument shown c.default_value.result) (view_argument shown c.in_ok-argument.argument) c.args.name.now
    (g.T.GraphQLReference.reference c.args.info.now) (view_input shown c.in_ok-own_value.own_value)
    (g.T.ToInputValue.input c.args.value.now) c.default_value.ensures c.in_ok-argument.ensures.made c.in_ok-own_value.ensures
