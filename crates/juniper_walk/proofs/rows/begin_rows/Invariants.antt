use Rattle.juniper_walk.specs.Rows.{AreFresh}
use Rattle.juniper_walk.proofs.rows.begin_rows.Given as goal

-- so many rows so far
abbrev pub invariant-loop-row : goal.invariant-loop-row
invariant-loop-row g l = AreFresh g.S.ScalarValue.shown l._row l.rows.items
