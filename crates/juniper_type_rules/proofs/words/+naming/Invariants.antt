use Rattle.std.proofs.Common.{map}
use Rattle.juniper_syntax.specs.DocumentView.{view_word}
use Rattle.juniper_written.proofs.Lists.{IsFlatSoFar}
use Rattle.juniper_type_rules.proofs.WordsIn.{words_of_item, words_of_field}
use Rattle.juniper_type_rules.proofs.words.+naming.Given as goal

abbrev pub invariant-push_of_items-loop-item : goal.invariant-push_of_items-loop-item
invariant-push_of_items-loop-item g l =
    IsFlatSoFar (words_of_item g.S.ScalarValue.shown) l.items (map view_word l.initial.words.items) l.item-index (map view_word l.words.items)

abbrev pub invariant-push_of_fields-loop-field : goal.invariant-push_of_fields-loop-field
invariant-push_of_fields-loop-field g l =
    IsFlatSoFar (words_of_field g.S.ScalarValue.shown) l.fields (map view_word l.initial.words.items) l.field-index (map view_word l.words.items)
