-- Fields and levels are counted alike: what a part has is joined with what follows it. Only private clauses cite these.
use Rattle.std.specs.Prelude.{ℕ, suc, ◌+◌, max, min, true, List, cond}
use Rattle.graphql_spec.specs.Documents.{Fragment, Selections}
use Rattle.graphql_spec.specs.Fragments.{expand}
use Rattle.graphql_spec.specs.Selections.{Forest, end, field, under}
use Rattle.juniper_written.specs.ExpandedFields.{is_endless}
use Rattle.juniper_written.specs.declared.counts.Counts.{Counts}

-- what is counted
pub data Measure : Type 0 where
  of_fields : Measure
  of_levels : Measure

-- the number of a part and of what follows it: the sum of the fields, the larger of the levels
unfoldable pub join : Measure → ℕ → ℕ → ℕ
join of_fields a b = a + b
join of_levels a b = max a b

-- the number of a fragment where it is put in, by that of what it holds: it is no field, and a level
unfoldable pub put_in : Measure → ℕ → ℕ
put_in of_fields n = n
put_in of_levels n = suc n

-- the number of selections
unfoldable pub measured : Measure → Forest → ℕ
measured m end = 0
measured m (field h below rest) = join m (suc (measured m below)) (measured m rest)
measured m (under c below rest) = join m (put_in m (measured m below)) (measured m rest)

-- with every spread put in; `most` where there are more, or no end of them
unfoldable pub expanded_number : Measure → ℕ → List Fragment → Selections → ℕ
expanded_number m most fragments s = cond (is_endless fragments s) most (min most (measured m (expand (λ d. true) fragments s)))

-- one of the two numbers
unfoldable pub number : Measure → Counts → ℕ
number of_fields c = c.fields
number of_levels c = c.levels
