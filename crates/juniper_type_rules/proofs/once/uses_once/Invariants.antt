use Rattle.std.specs.Vec.Iter.{into_iter_items}
use Rattle.juniper_type_rules.proofs.LeavingOut.{PassAlike}
use Rattle.juniper_type_rules.specs.UsesView.{view_uses}
use Rattle.juniper_type_rules.proofs.once.uses_once.Given as goal

-- what is kept and what is left pass the tests that all pass
abbrev pub invariant-loop-one : goal.invariant-loop-one
invariant-loop-one l = PassAlike (view_uses l.kept.items) (view_uses (into_iter_items l.one-iterator)) (view_uses (into_iter_items l.initial.one-iterator))
