-- What is chosen for an object type is what is collected (6.3.2).
use Rattle.std.proofs.Common.{◌≡◌, Bool, List, [], ◌++◌, ap, sym, ◌∙◌}
use Rattle.std.specs.Prelude.{None}
use Rattle.graphql_spec.specs.Shown.{Shown, Name}
use Rattle.graphql_spec.specs.Documents.{Selections}
use Rattle.graphql_spec.specs.Directives.{passes}
use Rattle.graphql_spec.specs.Selections.{Occurrence, occurrences}
use Rattle.juniper_syntax.specs.InputView.{view_variables}
use Rattle.juniper_lookahead.specs.Choices.{Choice, expanded_by, found}
use Rattle.juniper_lookahead.specs.Collected.{all_found, expansion, view_all, view_all_found, view_collected}
use Rattle.juniper_lookahead.specs.FragmentView.{fragments_in}
use Rattle.juniper_lookahead.specs.Nesting.{deepest_of}
use Rattle.juniper_lookahead.specs.Parts.{child_of}
use Rattle.juniper_lookahead.specs.Singles.{AreAlone, AreFoundAlone, view_found_singles, view_singles}
use Rattle.juniper_lookahead.specs.declared.collecting.Collector.{Collector}
use Rattle.juniper_lookahead.specs.declared.occurrences.Occurrence.{Occurrence as CodeOccurrence}
use Rattle.juniper_lookahead.specs.declared.singles.Single.{Single}
use Rattle.juniper_lookahead.proofs.Chosen.{chosen-occurrences}

module _ {S P : Type 0} (shown : S → Shown) (c : Collector S P) (possible : Name → Name → Bool) (T : Name) where
  abbrev pub for_type : Choice
  for_type = record {
    test = passes (view_variables shown c.variables.now);
    fragments = fragments_in shown c.fragments.now;
    deepest = deepest_of c.fragments.now.ordered.entries;
    meets = possible T;
  }

  found-occurrences : (s : Selections) → all_found for_type s ≡ occurrences possible T (expansion shown c s)
  unfolding found expanded_by expansion
  found-occurrences s = chosen-occurrences possible T None (expansion shown c s)

  all-there : (old new : List Occurrence) (s : Selections) → old ≡ [] → new ≡ old ++ all_found for_type s → new ≡ occurrences possible T (expansion shown c s)
  all-there old new s none adds = adds ∙ (ap (λ l. l ++ all_found for_type s) none ∙ found-occurrences s)

  pub all-collected : (old new : List (CodeOccurrence S)) (s : Selections) → old ≡ [] →
      view_all_found shown for_type new ≡ view_all_found shown for_type old ++ all_found for_type s → view_all shown c new ≡ occurrences possible T (expansion shown c s)
  unfolding view_collected child_of expanded_by expansion
  all-collected old new s none adds = all-there (view_all shown c old) (view_all shown c new) s (ap (view_all shown c) none) adds

  pub all-single : (old new : List (Single S)) (s : Selections) → old ≡ [] →
      view_found_singles shown for_type new ≡ view_found_singles shown for_type old ++ all_found for_type s
      → view_singles shown c new ≡ occurrences possible T (expansion shown c s)
  unfolding view_collected child_of expanded_by expansion
  all-single old new s none adds = all-there (view_singles shown c old) (view_singles shown c new) s (ap (view_singles shown c) none) adds

  pub all-alone : (fs : List (Single S)) → AreFoundAlone shown for_type fs → AreAlone shown c possible T fs
  unfolding view_collected child_of expanded_by expansion
  all-alone fs alone = λ i d below. sym (found-occurrences _) ∙ alone i d below
