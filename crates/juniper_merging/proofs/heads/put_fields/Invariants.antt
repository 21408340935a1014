use Rattle.std.proofs.Common.{ℕ, List, ◌++◌, take}
use Rattle.juniper_merging.specs.Groups.{group_in}
use Rattle.juniper_merging.specs.Questions.{seen}
use Rattle.juniper_merging.specs.Uniting.{AreHeads}
use Rattle.juniper_merging.proofs.heads.put_fields.Given as goal

-- those before this place were added
abbrev pub invariant-loop-field : goal.invariant-loop-field
invariant-loop-field l = (t : List (List ℕ)) (before : List ℕ) → AreHeads (seen t l.vertices) t before l.initial.heads.items (group_in l.initial.groups) →
    AreHeads (seen t l.vertices) t (before ++ take l.field-index l.fields) l.heads.items (group_in l.groups)
