-- Fields that were collected, each with its own selection alone (6.3.2).
use Rattle.std.specs.Prelude.{◌≡◌, Bool, List, [], ◌∷◌, map}
use Rattle.std.specs.List.{All}
use Rattle.graphql_spec.specs.Shown.{Shown, Name}
use Rattle.graphql_spec.specs.Selections.{Occurrence, occurrences}
use Rattle.juniper_syntax.specs.DocumentView.{view_selections}
use Rattle.juniper_lookahead.specs.Choices.{Choice}
use Rattle.juniper_lookahead.specs.Collected.{all_found, expansion, view_collected, view_found}
use Rattle.juniper_lookahead.specs.declared.collecting.Collector.{Collector}
use Rattle.juniper_lookahead.specs.declared.singles.Single.{Single}

module _ {S P : Type 0} (shown : S → Shown) (c : Collector S P) where
  abbrev pub view_singles : List (Single S) → List Occurrence
  view_singles fs = map (λ f. view_collected shown c f.field.now) fs

  module _ (possible : Name → Name → Bool) (T : Name) where
    -- the selection holds the field and nothing else, for an object type
    abbrev pub IsAlone : Single S → Type 0
    IsAlone f = occurrences possible T (expansion shown c (view_selections shown f.alone.now)) ≡ view_collected shown c f.field.now ∷ []

    abbrev pub AreAlone : List (Single S) → Type 0
    AreAlone fs = All (λ f. IsAlone f) fs

-- ## Only private clauses cite what follows

module _ {S : Type 0} (shown : S → Shown) (h : Choice) where
  abbrev pub view_found_singles : List (Single S) → List Occurrence
  view_found_singles fs = map (λ f. view_found shown h f.field.now) fs

  -- the selections hold these fields and nothing else
  abbrev pub AreFoundAlone : List (Single S) → Type 0
  AreFoundAlone fs = All (λ f. all_found h (view_selections shown f.alone.now) ≡ view_found shown h f.field.now ∷ []) fs
