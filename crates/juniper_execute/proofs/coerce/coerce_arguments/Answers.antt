use Rattle.std.proofs.Common.{ap, map, ◌∙◌}
use Rattle.graphql_spec.specs.Arguments.{coerced_arguments, given, with_defaults}
use Rattle.juniper_meta.specs.MetaView.{view_argument as view_meta_argument}
use Rattle.juniper_syntax.specs.InputView.{view_variables}
use Rattle.juniper_execute.proofs.coerce.coerce_arguments.Goals as goal

pub returns : goal.returns
unfolding coerced_arguments
returns g c =
    let shown = g.S.ScalarValue.shown in
    let vars = view_variables shown c.args.variables.now in
    c.in_ok-put_defaults.ensures
    ∙ ap (with_defaults (map (view_meta_argument shown) c.args.declared.now)) (c.in_ok-arguments.ensures ∙ ap (given vars) c.written-written.ensures)
