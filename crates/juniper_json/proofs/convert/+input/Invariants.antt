use Rattle.std.proofs.Common.{◌≡◌, drop}
use Rattle.juniper_syntax.proofs.InputLists.{append_items, append_fields}
use Rattle.juniper_syntax.specs.InputView.{view_items, view_fields}
use Rattle.juniper_syntax.specs.Scalars.{default_shown}
use Rattle.juniper_json.specs.Given.{items_of, fields_of}
use Rattle.serde_json.specs.View.{items_view, members_view}
use Rattle.juniper_json.proofs.convert.+input.Given as goal

-- what is made, and then what is left, are all
abbrev pub invariant-list_items-loop-item : goal.invariant-list_items-loop-item
invariant-list_items-loop-item l =
    append_items (view_items default_shown l.made.items) (items_of (items_view (drop l.item-index l.item-items))) ≡ items_of (items_view l.items.items)

abbrev pub invariant-object_fields-loop-name : goal.invariant-object_fields-loop-name
invariant-object_fields-loop-name l =
    append_fields (view_fields default_shown l.made.items) (fields_of (members_view l.name-iterator)) ≡ fields_of (members_view l.members.entries)
