use Rattle.std.proofs.Common.{map, take}
use Rattle.juniper_merging.specs.Questions.{IsSoundIn, fields_of}
use Rattle.juniper_merging.specs.Sets.{IsTable}
use Rattle.juniper_merging.specs.Tables.{table_of}
use Rattle.juniper_field_graph.specs.Gathering.{IsAnswer, Pairwise}
use Rattle.juniper_field_graph.proofs.overlapping_fields_can_be_merged.judge_each.Given as goal

-- what is known is right, and the lists before this place are answered
abbrev pub invariant-loop-sets : goal.invariant-loop-sets
invariant-loop-sets l = IsTable l.graph.sets.now → IsSoundIn l.graph l.answers
    × Pairwise (IsAnswer (fields_of l.graph) (table_of l.graph.sets.now)) (map (λ v. v.items) (take l.sets-index l.lists)) l.found.items
