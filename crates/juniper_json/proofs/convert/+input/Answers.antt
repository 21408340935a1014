use Rattle.std.proofs.Common.{string_bytes, ap, ◌∙◌}
use Rattle.juniper_syntax.specs.InputView.{view_input}
use Rattle.juniper_syntax.specs.Scalars.{default_shown}
use Rattle.juniper_json.proofs.Made.{items_turn, items_end, fields_turn, fields_end, unplaced}
use Rattle.juniper_json.proofs.convert.+input.Goals as goal

pub list_items-loop-item-preserved : goal.list_items-loop-item-preserved
list_items-loop-item-preserved t c =
    let l = c.loop-item in
    items_turn c.deref-item-items.result.now l.made.items c.push.new.self.items l.item-index c.item-item.result c.unlocated.result c.in_ok-push.ensures.items
    c.loop-item-test.true c.item-item.is (ap (view_input default_shown) c.unlocated.ensures.item ∙ c.in_ok-input.ensures)
    (unplaced c.unlocated.result.span c.unlocated.ensures.start c.unlocated.ensures.end)
    ∙ l.invariant

pub list_items-returns : goal.list_items-returns
list_items-returns t c = items_end c.deref-item-items.result.now c.loop-item.made.items c.loop-item.item-index c.loop-item-test.false ∙ c.loop-item.invariant

pub object_fields-loop-name-preserved : goal.object_fields-loop-name-preserved
object_fields-loop-name-preserved t c =
    let l = c.loop-name in
    fields_turn l.name-iterator c.next.new.self l.made.items c.push.new.self.items (c.in-Some.name.now, c.in-Some.value.now)
    (c.unlocated.result, c.unlocated-in-loop-name.result)
    c.in-Some.ensures.steps c.in_ok-push.ensures.items (ap (λ x. string_bytes x) c.unlocated.ensures.item ∙ (c.in_ok-key.ensures.ok ∙ c.as_str.ensures.value))
    (ap (view_input default_shown) c.unlocated-in-loop-name.ensures.item ∙ c.in_ok-own.ensures)
    (unplaced c.unlocated.result.span c.unlocated.ensures.start c.unlocated.ensures.end)
    (unplaced c.unlocated-in-loop-name.result.span c.unlocated-in-loop-name.ensures.start c.unlocated-in-loop-name.ensures.end)
    ∙ l.invariant

pub object_fields-returns : goal.object_fields-returns
object_fields-returns t c = fields_end c.loop-name.name-iterator c.loop-name.made.items c.in-None.ensures.steps.0 ∙ c.loop-name.invariant
