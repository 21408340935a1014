use Rattle.juniper_written.specs.WrittenView.{view_names}
use Rattle.juniper_type_rules.proofs.Numbering.{AreNumbered}
use Rattle.juniper_type_rules.proofs.numbers.numbers_of.Given as goal

abbrev pub invariant-loop-number : goal.invariant-loop-number
invariant-loop-number l = AreNumbered l.numbers (view_names l.names.items) l.number
