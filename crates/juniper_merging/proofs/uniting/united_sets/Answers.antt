use Rattle.std.proofs.Common.{[]}
use Rattle.juniper_merging.specs.Questions.{fields_of}
use Rattle.juniper_merging.specs.Tables.{table_of}
use Rattle.juniper_merging.proofs.uniting.united_sets.Goals as goal

pub loop-before-init : goal.loop-before-init
loop-before-init c there = ((λ a. []), c.in_ok-uniting.ensures (fields_of c.args.graph.now) (table_of c.args.graph.now.sets.now) (λ a. []))

pub loop-before-preserved : goal.loop-before-preserved
loop-before-preserved c there = let r = c.loop-before.invariant there in c.in_ok-unite_at.ensures there r.0 r.1
