use Rattle.std.proofs.Common.{◌≡◌, drop}
use Rattle.juniper_json.specs.Given.{all_items, all_members}
use Rattle.juniper_json.specs.Wanted.{is_wanted}
use Rattle.serde_json.specs.View.{items_view, members_view}
use Rattle.juniper_json.proofs.numbers.+all_numbers.Given as goal

-- what is left decides
abbrev pub invariant-all_items-loop-item : goal.invariant-all_items-loop-item
invariant-all_items-loop-item l =
    all_items (is_wanted l.wanted) (items_view (drop l.item-index l.item-items)) ≡ all_items (is_wanted l.wanted) (items_view l.items.items)

abbrev pub invariant-all_members-loop-name : goal.invariant-all_members-loop-name
invariant-all_members-loop-name l =
    all_members (is_wanted l.wanted) (members_view l._name-iterator) ≡ all_members (is_wanted l.wanted) (members_view l.members.entries)
