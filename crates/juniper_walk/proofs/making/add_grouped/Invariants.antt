use Rattle.juniper_walk.specs.FieldWords.{fields_at as fields_in}
use Rattle.juniper_walk.proofs.Gathering.{IsAdding}
use Rattle.juniper_walk.proofs.making.add_grouped.Given as goal

-- the fields so far are in groups
abbrev pub invariant-loop-occurrence : goal.invariant-loop-occurrence
invariant-loop-occurrence g l =
    IsAdding g.S.ScalarValue.shown l.collector (g.R.Resolver.asks l.collector.possible) (g.R.Conditions.possible l.collector.possible) l.concrete l.fields
    l.occurrence-index l.initial.plan l.plan
    (λ k. fields_in l.by_key k)
