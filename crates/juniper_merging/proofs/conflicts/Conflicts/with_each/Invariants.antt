use Rattle.std.proofs.Common.{ℕ, List, take}
use Rattle.graphql_spec.specs.Laws.{In}
use Rattle.juniper_merging.specs.Conflicts.{AreAllPaired, AreKnown}
use Rattle.juniper_merging.specs.Nodes.{IsEntry}
use Rattle.juniper_merging.specs.Questions.{seen}
use Rattle.juniper_merging.specs.declared.nodes.Entry.{Entry}
use Rattle.juniper_merging.proofs.conflicts.Conflicts.with_each.Given as goal

-- how they clash with those before this place
abbrev pub invariant-loop-other : goal.invariant-loop-other
invariant-loop-other l = (t : List (List ℕ)) (H : ℕ → List ℕ) (F G : List ℕ) → AreKnown (seen t l.vertices) H l.self →
    ((e : Entry) → In e l.others → IsEntry (seen t l.vertices) H F e) → (own : IsEntry (seen t l.vertices) H G l.entry) →
    AreAllPaired (seen t l.vertices) F G (take l.other-index l.others) own.head l.found
