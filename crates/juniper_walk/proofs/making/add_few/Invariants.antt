use Rattle.graphql_spec.specs.Documents.{response_key}
use Rattle.juniper_walk.specs.FieldWords.{head_of}
use Rattle.juniper_walk.proofs.Gathering.{IsAdding}
use Rattle.juniper_walk.proofs.Unmet.{unmet}
use Rattle.juniper_walk.proofs.making.add_few.Given as goal

-- the fields so far are in groups
abbrev pub invariant-loop-place : goal.invariant-loop-place
invariant-loop-place g l =
    IsAdding g.S.ScalarValue.shown l.collector (g.R.Resolver.asks l.collector.possible) (g.R.Conditions.possible l.collector.possible) l.concrete l.fields
    l.place l.initial.plan l.plan (unmet (λ o. response_key (head_of g.S.ScalarValue.shown o.field.now)) l.fields l.place)
