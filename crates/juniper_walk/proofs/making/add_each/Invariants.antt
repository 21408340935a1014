use Rattle.juniper_walk.proofs.Gathering.{IsAdding, left_at}
use Rattle.juniper_walk.proofs.making.add_each.Given as goal

-- the fields so far are in groups
abbrev pub invariant-loop-occurrence : goal.invariant-loop-occurrence
invariant-loop-occurrence g l =
    IsAdding g.S.ScalarValue.shown l.collector (g.R.Resolver.asks l.collector.possible) (g.R.Conditions.possible l.collector.possible) l.concrete l.fields
    l.occurrence-index l.initial.plan l.plan
    (left_at g.S.ScalarValue.shown l.collector (g.R.Resolver.asks l.collector.possible) (g.R.Conditions.possible l.collector.possible) l.concrete l.fields
    l.occurrence-index)
