use Rattle.std.proofs.Common.{[]}
use Rattle.std.specs.Option.{option_to_list}
use Rattle.juniper_written.specs.WrittenView.{named}
use Rattle.juniper_written.proofs.Lists.{IsFlatSoFar}
use Rattle.juniper_type_rules.proofs.numbers.numbers_at.Given as goal

abbrev pub invariant-loop-index : goal.invariant-loop-index
invariant-loop-index l = IsFlatSoFar (λ n. option_to_list (named l.numbers n.now)) l.names.items [] l.index l.all.items
