use Rattle.std.proofs.Common.{◌≡◌, ◌∙◌, [], ◌∷◌, cond, IfSome, is_some, Some, sym, ap, map, subst, take, take_all}
use Rattle.std.proofs.lemmas.List.{take_more, map-append}
use Rattle.graphql_spec.specs.Arguments.{given, put_default, put_given}
use Rattle.graphql_spec.specs.Constants.{find}
use Rattle.graphql_spec.specs.Inputs.{const}
use Rattle.graphql_spec.proofs.Given.{given-more}
use Rattle.juniper_syntax.specs.DocumentView.{view_argument}
use Rattle.juniper_syntax.specs.InputView.{view_input, view_variables}
use Rattle.juniper_values.specs.ArgumentView.{view_arguments}
use Rattle.juniper_execute.proofs.Making.{put-unless}
use Rattle.juniper_execute.proofs.Lent.{const-lent}
use Rattle.juniper_execute.proofs.coerce.give.Goals as goal
use Rattle.juniper_execute.proofs.coerce.give.Goals.{in-Some+in_ok-lend-in-Some, in-None+in_ok-put_made-in-None}

pub loop-argument-init : goal.loop-argument-init
unfolding given
loop-argument-init g c = c.none-arguments.ensures

pub loop-argument-preserved : goal.loop-argument-preserved
loop-argument-preserved g c =
    let shown = g.S.ScalarValue.shown in
    let view = view_argument shown in
    let vars = view_variables shown c.args.variables.now in
    let before = take c.loop-argument.argument-index c.args.written.now in
    let item = c.argument-item.result in
    let a = view item in
    let ms = view_arguments shown c.loop-argument.arguments in
    let lent = const-lent shown vars item.1 c.if_const.result c.if_const.ensures in
    let put : view_arguments shown c.match-if_const.arguments ≡ put_default a.name.item (const vars a.value.item) ms =
    elim c.match-if_const.branch [
      | in-Some+in_ok-lend-in-Some w ↦
          let same = subst (λ o. IfSome o (λ v. const vars a.value.item ≡ Some (view_input shown v.now.item))) w.in-Some.is lent in
          ap (view_arguments shown) w.arguments-is ∙ (w.in_ok-lend-in-Some.ensures ∙ ap (λ o. put_default a.name.item o ms) (sym same))
      | in-None+in_ok-put_made-in-None w ↦ ap (view_arguments shown) w.arguments-is ∙ w.in_ok-put_made-in-None.ensures
    ] in
    rw (take_more c.args.written.now c.loop-argument.argument-index item c.loop-argument-test.true, ← c.argument-item.is)
    (put ∙ (put-unless a.name.item (const vars a.value.item) ms
    ∙ (ap (λ z. cond (is_some (find a.name.item z)) z (put_given a.name.item (const vars a.value.item) z)) c.loop-argument.invariant
    ∙ (sym (given-more vars (map view before) a) ∙ sym (ap (given vars) (map-append view before (item ∷ [])))))))

pub returns : goal.returns
returns g c = rw (← take_all c.loop-argument.argument-index c.args.written.now c.loop-argument-test.false) c.loop-argument.invariant
