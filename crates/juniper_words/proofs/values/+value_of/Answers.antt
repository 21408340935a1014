use Rattle.std.proofs.Common.{ap, ◌∙◌, string_bytes}
use Rattle.juniper_syntax.specs.InputView.{view_input}
use Rattle.juniper_words.specs.Data.{items_of, members_of}
use Rattle.juniper_words.proofs.Literals.{fields_end, fields_put, items_end, items_put, placed}
use Rattle.juniper_words.proofs.values.+value_of.Goals as goal

pub items_of-loop-item-preserved : goal.items_of-loop-item-preserved
items_of-loop-item-preserved g t c =
    let shown = g.S.ScalarValue.shown in
    items_put shown c.args.items.now c.loop-item.item-index c.item-item.result c.loop-item.made.items c.push.new.self.items c.unlocated.result
    (items_of c.args.items.now) c.in_ok-push.ensures.items c.loop-item-test.true c.item-item.is
    (ap (view_input shown) c.unlocated.ensures.item ∙ c.in_ok-value.ensures)
    (placed c.unlocated.result.span c.unlocated.ensures.start c.unlocated.ensures.end) c.loop-item.invariant

pub items_of-returns : goal.items_of-returns
items_of-returns g t c =
    items_end g.S.ScalarValue.shown c.args.items.now c.loop-item.item-index c.loop-item.made.items (items_of c.args.items.now)
    c.loop-item-test.false c.loop-item.invariant

pub members_of-loop-member-preserved : goal.members_of-loop-member-preserved
members_of-loop-member-preserved g t c =
    let shown = g.S.ScalarValue.shown in
    let key = c.unlocated in
    let value = c.unlocated-in-loop-member in
    fields_put shown c.args.members.now c.loop-member.member-index _ c.loop-member.made.items c.push.new.self.items
    (key.result, value.result) (members_of c.args.members.now) c.in_ok-push.ensures.items c.loop-member-test.true
    (ap (λ n. string_bytes n) key.ensures.item ∙ c.in_ok-name.ensures.ok) (placed key.result.span key.ensures.start key.ensures.end)
    (ap (view_input shown) value.ensures.item ∙ c.in_ok-value.ensures) (placed value.result.span value.ensures.start value.ensures.end) c.loop-member.invariant

pub members_of-returns : goal.members_of-returns
members_of-returns g t c =
    fields_end g.S.ScalarValue.shown c.args.members.now c.loop-member.member-index c.loop-member.made.items (members_of c.args.members.now)
    c.loop-member-test.false c.loop-member.invariant
