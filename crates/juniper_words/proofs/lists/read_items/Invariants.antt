use Rattle.std.proofs.Common.{◌≡◌, map}
use Rattle.juniper_words.specs.InputsRead.{read_items}
use Rattle.juniper_words.proofs.ReadLists.{after, left, meant}
use Rattle.juniper_words.proofs.lists.read_items.Given as goal

-- what was read, put before what is read of the rest, is the whole
abbrev pub invariant-loop-item : goal.invariant-loop-item
invariant-loop-item g l =
    read_items g.T.InputType.read (map (meant g.S.ScalarValue.shown) l.items)
    ≡ after (map g.T.InputType.seen l.made.items) (left g.T.InputType.read (meant g.S.ScalarValue.shown) l.items l.item-index)
