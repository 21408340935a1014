use Rattle.std.proofs.Common.{◌≡◌, drop}
use Rattle.juniper_syntax.specs.InputView.{view_fields, view_items}
use Rattle.juniper_syntax.proofs.InputLists.{append_fields, append_items}
use Rattle.juniper_words.specs.Data.{items_of, members_of}
use Rattle.juniper_words.proofs.values.+value_of.Given as goal

-- what is made, before what is still to be made, is the whole
abbrev pub invariant-items_of-loop-item : goal.invariant-items_of-loop-item
invariant-items_of-loop-item g l =
    append_items (view_items g.S.ScalarValue.shown l.made.items) (items_of (drop l.item-index l.items)) ≡ items_of l.items

abbrev pub invariant-members_of-loop-member : goal.invariant-members_of-loop-member
invariant-members_of-loop-member g l =
    append_fields (view_fields g.S.ScalarValue.shown l.made.items) (members_of (drop l.member-index l.members)) ≡ members_of l.members
