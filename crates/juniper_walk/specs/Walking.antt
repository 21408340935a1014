-- What a walk over objects within objects asks of what it is given (6.3, 6.4).
use Rattle.std.specs.Prelude.{◌≡◌, ℕ, Bool, List}
use Rattle.graphql_spec.specs.Shown.{Shown, Name}
use Rattle.graphql_spec.specs.Selections.{Forest, Occurrence, occurrences}
use Rattle.graphql_spec.specs.Resolvers.{World}
use Rattle.graphql_spec.specs.Laws.{Agree}
use Rattle.juniper_lookahead.specs.Expansion.{VariableMap}
use Rattle.juniper_lookahead.specs.Collected.{IsReady}
use Rattle.juniper_walk.specs.declared.asking.Walk.{Walk}

-- the collector is ready, takes for possible what the world takes, and has the values of variables that the resolver has
pub record IsReadyWalk {N S R : Type 0} (shown : S → Shown) (possible : R → Name → Name → Bool) (values : R → VariableMap S) (W : World N)
    (walk : Walk S R) : Type 0 where
  pub collector : IsReady shown walk.collector
  pub same : possible walk.collector.possible ≡ W.possible
  pub variables : values walk.collector.possible ≡ walk.collector.variables.now

module _ {N : Type 0} (W : World N) where
  -- to every depth, occurrences of one response key agree
  abbrev pub AllAgree : Name → List Occurrence → Type 0
  AllAgree T os = (d : ℕ) → Agree W d T os

  -- to every depth the fields agree that selections hold for an object type, as those of a valid operation do
  abbrev pub SelectionsAgree : Name → Forest → Type 0
  SelectionsAgree T s = AllAgree T (occurrences W.possible T s)
