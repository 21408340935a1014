use Rattle.std.proofs.Common.{ℕ, List}
use Rattle.juniper_merging.specs.Questions.{fields_of}
use Rattle.juniper_merging.specs.Sets.{IsTable}
use Rattle.juniper_merging.specs.Tables.{table_of}
use Rattle.juniper_merging.specs.United.{IsUniting}
use Rattle.juniper_merging.proofs.uniting.united_sets.Given as goal

-- it is known what each node holds
abbrev pub invariant-loop-before : goal.invariant-loop-before
invariant-loop-before l = IsTable l.graph.sets.now → (H : ℕ → List ℕ) × IsUniting (fields_of l.graph) (table_of l.graph.sets.now) H l.uniting
