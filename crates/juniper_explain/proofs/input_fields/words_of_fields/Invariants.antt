use Rattle.std.proofs.Common.{[]}
use Rattle.juniper_written.proofs.Lists.{IsSeenSoFar}
use Rattle.juniper_explain.specs.Words.{view_words}
use Rattle.juniper_explain.proofs.InputFields.{word_of_field}
use Rattle.juniper_explain.proofs.input_fields.words_of_fields.Given as goal

abbrev pub invariant-loop-field : goal.invariant-loop-field
invariant-loop-field g l = IsSeenSoFar (word_of_field g.S.ScalarValue.shown) l.fields [] l.field-index (view_words l.words.items)
