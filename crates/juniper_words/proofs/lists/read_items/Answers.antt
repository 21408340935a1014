use Rattle.std.proofs.Common.{Global, Vec, map, sym}
use Rattle.std.proofs.lemmas.List.{map-append}
use Rattle.juniper_words.specs.InputsRead.{read_items}
use Rattle.juniper_words.proofs.ReadLists.{after-none, all_read, error_stays, item_read, item_refused, meant}
use Rattle.juniper_words.proofs.lists.read_items.Goals as goal

pub loop-item-init : goal.loop-item-init
loop-item-init g c =
    rw c.new-made.ensures.items (sym (after-none (read_items g.T.InputType.read (map (meant g.S.ScalarValue.shown) c.args.items.now))))

pub returns-in-Err : goal.returns-in-Err
returns-in-Err g c =
    let shown = g.S.ScalarValue.shown in
    error_stays g.T.InputType.seen (λ (v : Vec g.row.T.Denot Global). map g.T.InputType.seen v.items) shown c.in-Err.error
    (g.T.InputType.read (meant shown c.item-item.result))
    (read_items g.T.InputType.read (map (meant shown) c.args.items.now))
    (λ e r. item_refused g.T.InputType.read (meant shown) c.args.items.now c.loop-item.item-index c.item-item.result
    (map g.T.InputType.seen c.loop-item.made.items) e (read_items g.T.InputType.read (map (meant shown) c.args.items.now)) c.loop-item-test.true
    c.item-item.is c.loop-item.invariant r) c.in-Err.ensures

pub loop-item-preserved : goal.loop-item-preserved
loop-item-preserved g c =
    let shown = g.S.ScalarValue.shown in
    rw (c.in_ok-push-in-Ok.ensures.items, map-append)
    (item_read g.T.InputType.read (meant shown) c.args.items.now c.loop-item.item-index c.item-item.result (map g.T.InputType.seen c.loop-item.made.items)
    (g.T.InputType.seen c.in-Ok.value) (read_items g.T.InputType.read (map (meant shown) c.args.items.now)) c.loop-item-test.true c.item-item.is
    c.loop-item.invariant c.in-Ok.ensures)

pub returns : goal.returns
returns g c =
    let shown = g.S.ScalarValue.shown in
    all_read g.T.InputType.read (meant shown) c.args.items.now c.loop-item.item-index (map g.T.InputType.seen c.loop-item.made.items)
    (read_items g.T.InputType.read (map (meant shown) c.args.items.now)) c.loop-item-test.false c.loop-item.invariant
