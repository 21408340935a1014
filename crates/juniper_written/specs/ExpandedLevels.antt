-- How deep selections nest, with each spread replaced by what its fragment holds (2.8, 6.3.2).
use Rattle.std.specs.Prelude.{ℕ, suc, max, min, true, List, cond}
use Rattle.graphql_spec.specs.Documents.{Fragment, Selections}
use Rattle.graphql_spec.specs.Fragments.{expand}
use Rattle.graphql_spec.specs.Selections.{Forest, end, field, under}
use Rattle.juniper_written.specs.ExpandedFields.{is_endless}

-- how many fields, spreads and inline fragments stand inside one another: each holds a selection set, or may
unfoldable pub nested : Forest → ℕ
nested end = 0
nested (field h below rest) = max (suc (nested below)) (nested rest)
nested (under c below rest) = max (suc (nested below)) (nested rest)

-- the levels with every spread put in, whatever directives and conditions say; `most` where there are more, or no end of them
unfoldable pub expanded_levels : ℕ → List Fragment → Selections → ℕ
expanded_levels most fragments s = cond (is_endless fragments s) most (min most (nested (expand (λ d. true) fragments s)))
