use Rattle.std.proofs.Common.{[], string_bytes}
use Rattle.juniper_written.specs.WrittenView.{view_names}
use Rattle.juniper_written.proofs.Lists.{IsSeenSoFar}
use Rattle.juniper_explain.proofs.fields.names_of.Given as goal

abbrev pub invariant-loop-field : goal.invariant-loop-field
invariant-loop-field g l = IsSeenSoFar (λ x. string_bytes x.name) l.fields [] l.field-index (view_names l.names.items)
