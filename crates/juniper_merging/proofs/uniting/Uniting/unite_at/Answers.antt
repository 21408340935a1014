use Rattle.juniper_merging.specs.Questions.{fields_of}
use Rattle.juniper_merging.specs.Tables.{table_of}
use Rattle.juniper_merging.proofs.uniting.Uniting.unite_at.Goals as goal

pub loop-place-init : goal.loop-place-init
loop-place-init c there = c.in_ok-begin_alone.ensures (fields_of c.args.graph.now) (table_of c.args.graph.now.sets.now)

pub loop-place-preserved : goal.loop-place-preserved
loop-place-preserved c there H is = let r = c.loop-place.invariant there H is in c.in_ok-unite.ensures there r.0 r.1
