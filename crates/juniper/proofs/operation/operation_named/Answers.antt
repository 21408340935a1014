use Rattle.std.proofs.Common.{option_map}
use Rattle.juniper_syntax.specs.DocumentView.{view_definition, view_operation}
use Rattle.juniper.specs.Choices.{choice_of}
use Rattle.juniper.proofs.Choosing.{named-turn, named-end}
use Rattle.juniper.proofs.operation.operation_named.Goals as goal

pub loop-definition-preserved : goal.loop-definition-preserved
loop-definition-preserved g c =
    let shown = g.S.ScalarValue.shown in
    named-turn (view_definition shown) c.args.document.now c.args.name.now _ _ c.loop-definition.definition-index c.definition-item.result
    c.loop-definition-test.true c.definition-item.is
    c.loop-definition.invariant c.later_named-found.ensures

pub returns : goal.returns
returns g c =
    let shown = g.S.ScalarValue.shown in
    named-end (view_definition shown) c.args.document.now c.args.name.now
    (choice_of (option_map (λ o. view_operation shown o.now) c.loop-definition.found)) c.loop-definition.definition-index
    c.loop-definition-test.false c.loop-definition.invariant
