use Rattle.std.proofs.Common.{◌∙◌, sym, ap, Some}
use Rattle.graphql_spec.specs.Arguments.{put_default}
use Rattle.juniper_syntax.specs.InputView.{view_input}
use Rattle.juniper_values.specs.ArgumentView.{view_arguments}
use Rattle.juniper_values.proofs.ArgumentMembers.{default-none}
use Rattle.juniper_execute.proofs.coerce.put_made.Goals as goal

pub returns-in-None : goal.returns-in-None
returns-in-None g c =
    let shown = g.S.ScalarValue.shown in
    rw (← c.in_ok-into_const.ensures, c.in-None.is) (sym (default-none c.args.name.now (view_arguments shown c.args.arguments.now)))

pub returns-in_ok-put-in-Some : goal.returns-in_ok-put-in-Some
returns-in_ok-put-in-Some g c =
    let shown = g.S.ScalarValue.shown in
    let ms = view_arguments shown c.args.arguments.now in
    rw (← c.in_ok-into_const.ensures, c.in-Some.is)
    (c.in_ok-put-in-Some.ensures ∙ ap (λ v. put_default c.args.name.now (Some (view_input shown v)) ms) c.new.ensures.item)
