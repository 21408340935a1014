use Rattle.std.proofs.Common.{◌≡◌, IfSome, ap, map, subst, ◌∙◌}
use Rattle.graphql_spec.specs.Arguments.{coerced_arguments, given, with_defaults}
use Rattle.juniper_meta.specs.MetaView.{view_argument as view_meta_argument}
use Rattle.juniper_syntax.specs.DocumentView.{view_argument}
use Rattle.juniper_syntax.specs.InputView.{view_variables}
use Rattle.juniper_values.specs.ArgumentView.{view_arguments}
use Rattle.juniper_execute.proofs.coerce.declared_arguments.Goals as goal

pub returns-in_ok-put_defaults-in-Some : goal.returns-in_ok-put_defaults-in-Some
unfolding coerced_arguments
returns-in_ok-put_defaults-in-Some g c =
    let shown = g.S.ScalarValue.shown in
    let vars = view_variables shown c.args.variables.now in
    let found = subst (λ o. IfSome o (λ m. view_arguments shown m ≡ given vars (map (view_argument shown) c.written-written.result.now)))
    c.in-Some.is c.in_ok-give_declared.ensures in
    c.in_ok-put_defaults-in-Some.ensures
    ∙ ap (with_defaults (map (view_meta_argument shown) c.args.declared.now)) (found ∙ ap (given vars) c.written-written.ensures)
