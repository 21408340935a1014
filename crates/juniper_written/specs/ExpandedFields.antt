-- How many fields selections hold, with each spread replaced by what its fragment holds (2.8, 6.3.2).
use Rattle.std.specs.Prelude.{ℕ, suc, ◌+◌, min, Bool, true, List, cond, length}
use Rattle.std.specs.List.{list_any}
use Rattle.graphql_spec.specs.Documents.{Selections}
use Rattle.graphql_spec.specs.Documents.{Fragment}
use Rattle.graphql_spec.specs.Fragments.{deep, expand, spreads}
use Rattle.graphql_spec.specs.Selections.{Forest, end, field, under}

-- the fields, those that stand below others too, whatever their conditions
unfoldable pub fields_in : Forest → ℕ
fields_in end = 0
fields_in (field h below rest) = suc (fields_in below + fields_in rest)
fields_in (under c below rest) = fields_in below + fields_in rest

-- the spreads have no end: a chain of them is longer than the list of fragments, so one of these reaches itself (5.5.2.2)
unfoldable pub is_endless : List Fragment → Selections → Bool
is_endless fragments s = list_any (deep fragments (length fragments)) (spreads s)

-- the fields with every spread put in, whatever directives and conditions say; `most` where there are more, or no end of them
unfoldable pub expanded_fields : ℕ → List Fragment → Selections → ℕ
expanded_fields most fragments s = cond (is_endless fragments s) most (min most (fields_in (expand (λ d. true) fragments s)))
