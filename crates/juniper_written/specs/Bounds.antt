-- What the numbers of fields and levels say of an execution (6.3), and of spreads without an end (5.5.2.2).
use Rattle.std.specs.Prelude.{ℕ, suc, ◌+◌, ◌<◌, ◌≤◌, min, Bool, true, List, [], ◌∷◌, cond, length, sum_by, ◌≡◌}
use Rattle.graphql_spec.specs.Shown.{Name}
use Rattle.graphql_spec.specs.Documents.{Directive, Fragment, Selections, response_key}
use Rattle.graphql_spec.specs.Fragments.{HasNoCycle, deep, expand}
use Rattle.graphql_spec.specs.Selections.{Forest, Occurrence, all_below, applies, depth, end, field, occurrences, under}
use Rattle.juniper_written.specs.ExpandedFields.{expanded_fields, fields_in}
use Rattle.juniper_written.specs.ExpandedLevels.{expanded_levels, nested}

-- a place in the data, without positions in lists: the response keys that lead there, the last first
abbrev pub Way : Type 0
Way = List Name

-- the fields that an execution meets at a place and below it, where `types` gives the type of the object at each place: those
-- that the selections hold for it, and those that these select
unfoldable pub met : (Name → Name → Bool) → (Way → Name) → Way → Forest → ℕ
met possible types here end = 0
met possible types here (field h below rest) = suc (met possible types (response_key h ∷ here) below + met possible types here rest)
met possible types here (under c below rest) =
    cond (applies possible (types here) c) (met possible types here below) 0 + met possible types here rest

-- they are the occurrences that CollectFields finds for the object's type (6.3.2), and what is met below each
abbrev pub MetIsCollected : Type 0
MetIsCollected = (possible : Name → Name → Bool) (types : Way → Name) (here : Way) (f : Forest) →
    met possible types here f ≡ sum_by (λ o. suc (met possible types (response_key o.head ∷ here) o.below)) (occurrences possible (types here) f)

-- what is met in merged selection sets is what is met in each of them (MergeSelectionSets, 6.4.3)
abbrev pub MetIsMerged : Type 0
MetIsMerged = (possible : Name → Name → Bool) (types : Way → Name) (here : Way) (os : List Occurrence) →
    met possible types here (all_below os) ≡ sum_by (λ o. met possible types here o.below) os

-- no types of objects and no values of variables make an execution meet more, where the number is below the greatest one
abbrev pub BoundsExecution : Type 0
BoundsExecution = (most : ℕ) (fragments : List Fragment) (s : Selections) → expanded_fields most fragments s < most →
    (test : Directive → Bool) (possible : Name → Name → Bool) (types : Way → Name) →
    met possible types [] (expand test fragments s) ≤ expanded_fields most fragments s

-- nor does an execution go deeper: no more fields stand inside one another
abbrev pub BoundsDepth : Type 0
BoundsDepth = (most : ℕ) (fragments : List Fragment) (s : Selections) → expanded_fields most fragments s < most → (test : Directive → Bool) →
    depth (expand test fragments s) ≤ expanded_fields most fragments s

-- where no fragment reaches itself it is the number of fields, or the greatest one where that is less
abbrev pub CountsFields : Type 0
CountsFields = (most : ℕ) (fragments : List Fragment) → HasNoCycle fragments → (s : Selections) →
    expanded_fields most fragments s ≡ min most (fields_in (expand (λ d. true) fragments s))

-- no values of variables make selections nest deeper, where the number is below the greatest one; no more fields of them stand inside
-- one another
abbrev pub BoundsLevels : Type 0
BoundsLevels = (most : ℕ) (fragments : List Fragment) (s : Selections) → expanded_levels most fragments s < most → (test : Directive → Bool) →
    (nested (expand test fragments s) ≤ expanded_levels most fragments s) × (depth (expand test fragments s) ≤ expanded_levels most fragments s)

-- where no fragment reaches itself it is the number of levels, or the greatest one where that is less
abbrev pub CountsLevels : Type 0
CountsLevels = (most : ℕ) (fragments : List Fragment) → HasNoCycle fragments → (s : Selections) →
    expanded_levels most fragments s ≡ min most (nested (expand (λ d. true) fragments s))

-- a chain of spreads that is longer than the list of fragments can be as long as one likes
abbrev pub LongIsEndless : Type 0
LongIsEndless = (fragments : List Fragment) (k : Name) → deep fragments (length fragments) k ≡ true → (n : ℕ) → deep fragments n k ≡ true
