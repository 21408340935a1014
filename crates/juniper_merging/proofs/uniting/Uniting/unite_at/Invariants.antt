use Rattle.juniper_merging.specs.Questions.{fields_of}
use Rattle.juniper_merging.specs.Sets.{IsTable}
use Rattle.juniper_merging.specs.Tables.{table_of}
use Rattle.juniper_merging.specs.United.{AreMade}
use Rattle.juniper_merging.proofs.uniting.Uniting.unite_at.Given as goal

-- some nodes were begun and made
abbrev pub invariant-loop-place : goal.invariant-loop-place
invariant-loop-place l = IsTable l.graph.sets.now → AreMade (fields_of l.graph) (table_of l.graph.sets.now) l.fn.self l.self
