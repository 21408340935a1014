use Rattle.std.proofs.Common.{◌∙◌, [], ◌∷◌, cond, is_some, sym, ap, map, take, take_all}
use Rattle.std.proofs.lemmas.List.{take_more, map-append}
use Rattle.graphql_spec.specs.Arguments.{given, put_default, put_given}
use Rattle.graphql_spec.specs.Constants.{find}
use Rattle.graphql_spec.specs.Inputs.{const}
use Rattle.graphql_spec.proofs.Given.{given-more}
use Rattle.juniper_syntax.specs.DocumentView.{view_argument}
use Rattle.juniper_syntax.specs.InputView.{view_variables}
use Rattle.juniper_values.specs.ArgumentView.{view_arguments}
use Rattle.juniper_execute.proofs.Making.{put-unless}
use Rattle.juniper_execute.proofs.Names.{named-so}
use Rattle.juniper_execute.proofs.coerce.give_declared.Goals as goal

pub loop-argument-init : goal.loop-argument-init
unfolding given
loop-argument-init g c = c.none-arguments.ensures

pub loop-argument-preserved : goal.loop-argument-preserved
loop-argument-preserved g c =
    let view = view_argument g.S.ScalarValue.shown in
    let vars = view_variables g.S.ScalarValue.shown c.args.variables.now in
    let before = take c.loop-argument.argument-index c.args.written.now in
    let a = view c.argument-item.result in
    let ms = view_arguments g.S.ScalarValue.shown c.loop-argument.arguments in
    let same = named-so c.declared_name.result c.in-Some.name a.name.item c.in-Some.is c.declared_name.ensures in
    rw (take_more c.args.written.now c.loop-argument.argument-index c.argument-item.result c.loop-argument-test.true, ← c.argument-item.is)
    (c.in_ok-put_made-in-Some.ensures ∙ (ap (λ n. put_default n (const vars a.value.item) ms) same
    ∙ (put-unless a.name.item (const vars a.value.item) ms
    ∙ (ap (λ z. cond (is_some (find a.name.item z)) z (put_given a.name.item (const vars a.value.item) z)) c.loop-argument.invariant
    ∙ (sym (given-more vars (map view before) a) ∙ sym (ap (given vars) (map-append view before (c.argument-item.result ∷ []))))))))

pub returns : goal.returns
returns g c = rw (← take_all c.loop-argument.argument-index c.args.written.now c.loop-argument-test.false) c.loop-argument.invariant
