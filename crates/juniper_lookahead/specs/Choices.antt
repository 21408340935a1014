-- What chooses among selections, and the fields that it chooses (2.8, 3.13, 6.3.2).
use Rattle.std.specs.Prelude.{◌≡◌, ℕ, Bool, true, false, List, [], ◌∷◌, ◌++◌, cond, Option}
use Rattle.std.specs.List.{list_any}
use Rattle.graphql_spec.specs.Shown.{Name}
use Rattle.graphql_spec.specs.Documents.{Directive, Fragment, Selections, Word}
use Rattle.graphql_spec.specs.Fragments.{deep, expand, spreads}
use Rattle.graphql_spec.specs.Selections.{Condition, nothing_asked, inline_on, spread_on, Forest, end, field, under, Child, nearest}

-- which directives admit a selection, the fragments, how deep the one nests that nests deepest, and which type conditions are met
pub record Choice : Type 0 where
  pub test : Directive → Bool
  pub fragments : List Fragment
  pub deepest : ℕ
  pub meets : Name → Bool

-- what counts of a fragment where it is spread
pub record Core : Type 0 where
  pub condition : Word
  pub selections : Selections

abbrev pub core : Fragment → Core
core f = record { condition = f.condition; selections = f.selections }

-- what a fragment asks is met; one that asks nothing always applies
unfoldable pub is_met : (Name → Bool) → Condition → Bool
is_met meets nothing_asked = true
is_met meets (inline_on k) = meets k
is_met meets (spread_on k) = meets k

-- the fields of selections, of fragments those that apply, each with the nearest condition that is written inline around it
unfoldable pub chosen : (Name → Bool) → Option Name → Forest → List Child
chosen meets on end = []
chosen meets on (field h below rest) = record { head = h; below = below; applies_for = on } ∷ chosen meets on rest
chosen meets on (under c below rest) = cond (is_met meets c) (chosen meets (nearest c on) below) [] ++ chosen meets on rest

-- the admitted selections, with every fragment put in
unfoldable pub expanded_by : Choice → Selections → Forest
expanded_by h s = expand h.test h.fragments s

-- the fields of selections, where the nearest inline condition around them is `on`
unfoldable pub found : Choice → Option Name → Selections → List Child
found h on s = chosen h.meets on (expanded_by h s)

-- no more than n spreads of the selections are inside one another
abbrev pub IsWithin : Choice → ℕ → Selections → Type 0
IsWithin h n s = list_any (deep h.fragments n) (spreads s) ≡ false
