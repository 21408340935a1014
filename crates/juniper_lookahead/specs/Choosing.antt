-- What chooses among selections, as it is seen (2.8, 3.13, 6.3.2). Only private clauses cite this.
use Rattle.std.specs.Prelude.{ℕ, Bool, true, List}
use Rattle.graphql_spec.specs.Shown.{Shown, Name}
use Rattle.graphql_spec.specs.Documents as spec
use Rattle.graphql_spec.specs.Directives.{passes}
use Rattle.juniper_syntax.specs.InputView.{view_variables}
use Rattle.juniper_lookahead.specs.Choices.{Choice}
use Rattle.juniper_lookahead.specs.Expansion.{VariableMap, FragmentsByName, fragments_among}
use Rattle.juniper_lookahead.specs.FragmentView.{fragments_in, IsMade}
use Rattle.juniper_lookahead.specs.Nesting.{deepest_of}
use Rattle.juniper_lookahead.specs.declared.choosing.Choosing.{Choosing}
use Rattle.juniper_lookahead.specs.declared.choosing.FragmentSource.{FragmentSource}
use Rattle.juniper_lookahead.specs.declared.choosing.FragmentSource.TheVariants.{Lent, Document}

-- how deep the fragment nests that nests deepest
abbrev pub source_deepest : {S : Type 0} → FragmentSource S → ℕ
source_deepest (Lent m) = deepest_of m.now.entries
source_deepest (Document m) = deepest_of m.now.ordered.entries

module _ {S : Type 0} (shown : S → Shown) where
  abbrev pub source_fragments : FragmentSource S → List spec.Fragment
  source_fragments (Lent m) = fragments_among shown m.now
  source_fragments (Document m) = fragments_in shown m.now

  -- fragments are found by their names
  abbrev pub CanFind : FragmentSource S → Type 0
  CanFind (Lent m) = Unit {0}
  CanFind (Document m) = IsMade shown m.now

  -- by what it chooses
  abbrev pub choice_of : {M : Type 0} → (M → Name → Bool) → Choosing S M → Choice
  choice_of met c = record {
    test = passes (view_variables shown c.variables.now);
    fragments = source_fragments c.fragments;
    deepest = source_deepest c.fragments;
    meets = met c.conditions;
  }

  -- look-ahead chooses by the values of variables and the fragments that it is lent, whatever the type conditions
  abbrev pub any_type : VariableMap S → FragmentsByName S → Choice
  any_type vars m =
      record { test = passes (view_variables shown vars); fragments = fragments_among shown m; deepest = deepest_of m.entries; meets = λ k. true }
