-- How look-ahead shows the occurrences of a field (this project's own).
use Rattle.std.specs.Prelude.{List, map}
use Rattle.std.specs.Slice.Iter.{iter_rest}
use Rattle.std.specs.declared.cmp.PartialEq.{Ghosts as Equality}
use Rattle.std.specs.declared.fmt.Debug.{Ghosts as Shows}
use Rattle.graphql_spec.specs.Selections.{Child}
use Rattle.graphql_spec.specs.Shown.{Shown}
use Rattle.juniper_syntax.specs.declared.scalar.ScalarValue.{Ghosts as Scalars}
use Rattle.juniper_lookahead.specs.Expansion.{FragmentsByName, VariableMap, occurrence_at, seen_ahead}
use Rattle.juniper_lookahead.specs.declared.occurrences.Occurrence.{Occurrence}
use Rattle.juniper_lookahead.specs.declared.occurrences.OccurrencesIter.{OccurrencesIter}

-- occurrences in order, each for all types
abbrev pub fields_ahead : {S : Type 0} → (S → Shown) → VariableMap S → FragmentsByName S → List (Occurrence S) → List Child
fields_ahead shown vars m os = map (λ o. seen_ahead (occurrence_at shown vars m o.field.now)) os

-- those that are still to come
abbrev pub occurrences_left : {S : Type 0} {scalar : Scalars S} {equality : Equality S} {shows : Shows S} →
    OccurrencesIter S scalar equality shows → List Child
occurrences_left {scalar = scalar} s = fields_ahead scalar.shown s.variables.now s.fragments.now (iter_rest s.left)
