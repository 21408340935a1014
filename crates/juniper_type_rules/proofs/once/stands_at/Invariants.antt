use Rattle.juniper_type_rules.proofs.once.stands_at.Given as goal

abbrev pub invariant-loop-place : goal.invariant-loop-place
invariant-loop-place l = Unit {0}
