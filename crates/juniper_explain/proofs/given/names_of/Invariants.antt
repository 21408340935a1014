use Rattle.std.proofs.Common.{[], string_bytes}
use Rattle.juniper_written.specs.WrittenView.{view_names}
use Rattle.juniper_written.proofs.Lists.{IsSeenSoFar}
use Rattle.juniper_explain.proofs.given.names_of.Given as goal

abbrev pub invariant-loop-argument : goal.invariant-loop-argument
invariant-loop-argument g l = IsSeenSoFar (λ x. string_bytes x.name) l.declared [] l.argument-index (view_names l.names.items)
