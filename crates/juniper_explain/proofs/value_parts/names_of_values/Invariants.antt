use Rattle.std.proofs.Common.{[], string_bytes}
use Rattle.juniper_written.specs.WrittenView.{view_names}
use Rattle.juniper_written.proofs.Lists.{IsSeenSoFar}
use Rattle.juniper_explain.proofs.value_parts.names_of_values.Given as goal

abbrev pub invariant-loop-value : goal.invariant-loop-value
invariant-loop-value l = IsSeenSoFar (λ x. string_bytes x.name) l.values [] l.value-index (view_names l.names.items)
