use Rattle.std.proofs.Common.{[]}
use Rattle.juniper_written.specs.WrittenView.{view_names}
use Rattle.juniper_written.proofs.Lists.{IsSeenSoFar}
use Rattle.juniper_type_rules.proofs.words.names_of_words.Given as goal

abbrev pub invariant-loop-index : goal.invariant-loop-index
invariant-loop-index l = IsSeenSoFar (λ w. w.item.now) l.words.items [] l.index (view_names l.names.items)
