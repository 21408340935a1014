use Rattle.std.proofs.Common.{option_map, sym, ap, ◌∙◌}
use Rattle.juniper_syntax.specs.DocumentView.{view_definition, view_operation}
use Rattle.juniper.specs.Choices.{choice_of}
use Rattle.juniper.proofs.Choosing.{only-many, only-first, only-none, only-end}
use Rattle.juniper.proofs.operation.only_operation.Goals as goal
use Rattle.juniper.proofs.operation.only_operation.Goals.{in-Some+else-is_some, in-None}

pub returns-then-is_some : goal.returns-then-is_some
returns-then-is_some g c =
    let shown = g.S.ScalarValue.shown in
    only-many (view_definition shown) c.args.document.now (λ o. view_operation shown o.now) c.loop-definition.found
    (view_operation shown c.in-Some.operation.now) c.loop-definition.definition-index c.definition-item.result
    c.loop-definition-test.true c.definition-item.is (sym c.is_some.ensures ∙ c.if-is_some.true) c.loop-definition.invariant c.in-Some.ensures

pub loop-definition-preserved : goal.loop-definition-preserved
loop-definition-preserved g c =
    let shown = g.S.ScalarValue.shown in
    elim c.match-operation_in.branch [
      | in-Some+else-is_some w ↦ rw w.found-is
          (only-first (view_definition shown) c.args.document.now (λ o. view_operation shown o.now) c.loop-definition.found w.in-Some.operation
          c.loop-definition.definition-index c.definition-item.result
          c.loop-definition-test.true c.definition-item.is (sym w.is_some.ensures ∙ w.if-is_some.false) c.loop-definition.invariant w.in-Some.ensures)
      | in-None w ↦ rw w.found-is
          (only-none (view_definition shown) c.args.document.now _ c.loop-definition.definition-index c.definition-item.result c.loop-definition-test.true
          c.definition-item.is c.loop-definition.invariant w.in-None.ensures)
    ]

pub returns-in-Some-found : goal.returns-in-Some-found
returns-in-Some-found g c =
    let shown = g.S.ScalarValue.shown in
    ap (λ o. choice_of (option_map (λ p. view_operation shown p.now) o)) (sym c.in-Some-found.is)
    ∙ only-end (view_definition shown) c.args.document.now (option_map (λ p. view_operation shown p.now) c.loop-definition.found)
    c.loop-definition.definition-index c.loop-definition-test.false c.loop-definition.invariant

pub returns-in-None-found : goal.returns-in-None-found
returns-in-None-found g c =
    let shown = g.S.ScalarValue.shown in
    ap (λ o. choice_of (option_map (λ p. view_operation shown p.now) o)) (sym c.in-None-found.is)
    ∙ only-end (view_definition shown) c.args.document.now (option_map (λ p. view_operation shown p.now) c.loop-definition.found)
    c.loop-definition.definition-index c.loop-definition-test.false c.loop-definition.invariant
