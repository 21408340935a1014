use Rattle.std.proofs.Common.{take}
use Rattle.graphql_spec.specs.Laws.{In}
use Rattle.juniper_merging.specs.Conflicts.{IsQuietEntry}
use Rattle.juniper_merging.specs.declared.nodes.Entry.{Entry}
use Rattle.juniper_merging.proofs.loud.has_loud_entry.Given as goal

-- those before this place are quiet
abbrev pub invariant-loop-entry : goal.invariant-loop-entry
invariant-loop-entry l = (e : Entry) → In e (take l.entry-index l.entries) → IsQuietEntry l.vertices l.loud e
